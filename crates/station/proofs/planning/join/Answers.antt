-- `station::planning::join` meets its contract: each request with its edges.
use Rattle.std.proofs.Common.{◌≡◌, ◌<◌, length, min, ap, ◌∙◌, arith, length-take}
use lib.ListN.{length-replicate}
use Rattle.lists.proofs.Copied.{copied_none, copied_more, copied_front, copied_count}
use Rattle.station_rules.specs.Planning.{ask_for}
use Rattle.station.proofs.Held.{no_more}
use Rattle.station.proofs.planning.join.Goals as goal

pub loop-i-init : goal.loop-i-init
loop-i-init c = copied_none (ask_for c.args.t.now) c.args.w.now.list _

pub loop-i-preserved : goal.loop-i-preserved
loop-i-preserved c = let w = c.args.w.now in
    let b : c.loop-i.i < length w.list = omega (arith, c.loop-i-test.true, ap length c.requests-n.ensures.value, no_more w.n w.list) in
    rw c.ask_for.ensures
    (copied_more (ask_for c.args.t.now) w.list _ c.loop-i.i _ _ b (simp length-replicate (omega (arith, b, c.requests-n.ensures.slots))) c.loop-i.invariant)

pub returns : goal.returns
returns c = let w = c.args.w.now in
    let n : length c.requests-n.result.now ≡ min w.n (length w.list) = ap length c.requests-n.ensures.value ∙ length-take w.n w.list in
    let xs = copied_front (ask_for c.args.t.now) w.n w.list _ c.loop-i.i _ (omega (arith, n, c.loop-i.auto.i-end, c.loop-i-test.false)) c.loop-i.invariant in
    let k = copied_count (ask_for c.args.t.now) w.n w.list _ n in
    rw (xs, k, c.no_ask-list.ensures)
