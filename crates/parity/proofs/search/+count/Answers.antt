-- `parity::search::count` meets its contract: the ways with the next syndrome taken, and those without it.
use Rattle.std.proofs.Common.{◌+◌, ◌-◌, arith, sym, ap₂, ◌∙◌, get_or}
use Rattle.std.specs.Int.Bits.{bit_xor}
use Rattle.parity_rules.proofs.Kept.{ways_end, ways_next, ways_small}
use Rattle.parity.proofs.search.+count.Goals as goal

pub returns-then-k-eq0 : goal.returns-then-k-eq0
returns-then-k-eq0 t c = c.hit.ensures.0 ∙ sym (ways_end c.args.want c.args.k c.args.syns.now c.if-k-eq0.true)

pub returns-then-next-eq0 : goal.returns-then-next-eq0
returns-then-next-eq0 t c =
    let l = c.args.syns.now in
    let e = c.if-next-eq0.true in
    ap₂ ◌+◌ (c.hit-then-next-eq0.ensures.0 ∙ sym (ways_end _ (c.args.k - 1) l e)) (c.hit-then-next-eq0-2.ensures.0 ∙ sym (ways_end _ (c.args.k - 1) l e))
    ∙ sym (ways_next c.args.want c.args.k l c.if-k-eq0.false)

pub overflow_add-result-2 : goal.overflow_add-result-2
overflow_add-result-2 t c =
    let k = c.args.k - 1 in
    let l = c.args.syns.now in
    omega (arith, ways_small (bit_xor c.args.want (get_or l k 0)) k l (omega arith), ways_small c.args.want k l (omega arith))

pub returns : goal.returns
returns t c = ap₂ ◌+◌ c.count.ensures c.count-2.ensures ∙ sym (ways_next c.args.want c.args.k c.args.syns.now c.if-k-eq0.false)
