-- `station::waiting::drop_all` meets its contract: a filter in place.
use Rattle.std.proofs.Common.{◌≡◌, ◌<◌, not, length, min, ap, arith, length-take, eq-eqb, ne_eqb}
use Rattle.lists.proofs.Kept.{kept_none, kept_yes, kept_no, kept_all, kept_count}
use Rattle.station.proofs.Held.{no_more}
use Rattle.station.proofs.waiting.drop_all.Goals as goal
use Rattle.station.proofs.waiting.drop_all.Goals.{Then-q-address, then-q-address, else-q-address}

-- the place written is one of the slots
within : (c : Then-q-address) → c.loop-i.k < 128
within c = let t = c.args.w.now in
    omega (arith, c.loop-i.invariant.fewer, c.loop-i-test.true, ap length c.requests-n.ensures.value, no_more t.n t.list, c.requests-n.ensures.slots)

pub loop-i-init : goal.loop-i-init
loop-i-init c = kept_none _ _

pub offset_bounds-w-k : goal.offset_bounds-w-k
offset_bounds-w-k c = let h = within c in omega arith

pub bounds-w-k : goal.bounds-w-k
bounds-w-k c = within c

pub overflow_add-k : goal.overflow_add-k
overflow_add-k c = let h = within ((goal.at.overflow_add-k c).Then-q-address) in omega arith

pub loop-i-preserved : goal.loop-i-preserved
loop-i-preserved c = let t = c.args.w.now in
    let k = c.loop-i.invariant in
    let b : c.loop-i.i < length t.list = omega (arith, c.loop-i-test.true, ap length c.requests-n.ensures.value, no_more t.n t.list) in
    elim c.if-q-address.branch [
      | then-q-address h ↦ rw (h.k-is, h.w-is) (kept_yes _ t.list _ _ _ _ b k (ap not (ne_eqb _ _ h.if-q-address.true)))
      | else-q-address h ↦ rw (h.k-is, h.w-is) (kept_no _ t.list _ _ _ _ b k (ap not (eq-eqb _ _ h.if-q-address.false)))
    ]

pub returns : goal.returns
returns c = let t = c.args.w.now in
    let k = c.loop-i.invariant in
    let e : c.loop-i.i ≡ min t.n (length t.list) =
    omega (arith, c.loop-i.auto.i-end, c.loop-i-test.false, ap length c.requests-n.ensures.value, length-take t.n t.list) in
    let l = kept_all _ t.n t.list _ _ _ e k in
    let m = kept_count _ t.n t.list _ _ _ e k in
    rw (l, m)
