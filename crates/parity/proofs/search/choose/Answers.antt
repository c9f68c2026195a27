-- `parity::search::choose` meets its contract: the one match from i on comes from the matches after i.
use Rattle.std.proofs.Common.{◌≡◌, sym, ◌∙◌, ◌<◌, arith, length, get_or}
use Rattle.parity_rules.specs.Messages.{bits}
use Rattle.parity_rules.proofs.Bits.{bits_length}
use Rattle.parity_rules.proofs.Choosing.{plain_on, marked, mark_take, mark_leave}
use Rattle.parity.proofs.search.choose.Goals as goal
use Rattle.parity.proofs.search.choose.Goals.{After-bit, Else-bit-eq0}

within : (c : After-bit) → c.args.i < length (bits c.args.marks.now)
within c = omega (arith, bits_length c.args.marks.now)

set_bit : (c : Else-bit-eq0) → get_or (bits c.args.marks.now) c.args.i 0 ≡ 0 → ⊥
set_bit c q = c.if-bit-eq0.false (c.bit.ensures ∙ q)

pub returns-then-bit-eq0 : goal.returns-then-bit-eq0
returns-then-bit-eq0 c =
    plain_on _ _ _ _ _ _ (within (goal.at.returns-then-bit-eq0 c).After-bit) c.requires.1 (sym c.bit.ensures ∙ c.if-bit-eq0.true)

-- a marked bit is left
pub overflow_sub-next : goal.overflow_sub-next
overflow_sub-next c =
    omega (arith, (marked _ _ _ _ _ _ (within (goal.at.overflow_sub-next c).After-bit) c.requires.1 (set_bit c)).2)

pub returns-then-count-eq1 : goal.returns-then-count-eq1
returns-then-count-eq1 c =
    let at = goal.at.returns-then-count-eq1 c in
    mark_take _ _ _ _ _ _ (within at.After-bit) c.requires.1 (set_bit at.Else-bit-eq0) (sym c.count.ensures ∙ c.if-count-eq1.true)

pub returns : goal.returns
returns c =
    let at = goal.at.returns c in
    mark_leave _ _ _ _ _ _ (within at.After-bit) c.requires.1 (set_bit at.Else-bit-eq0) (λ q. c.if-count-eq1.false (c.count.ensures ∙ q))
