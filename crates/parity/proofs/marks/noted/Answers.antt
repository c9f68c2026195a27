-- `parity::marks::noted` meets its contract: an unmarked bit adds nothing, a marked one its syndrome while there is room.
use Rattle.std.proofs.Common.{◌≡◌, length-set, add-one, arith}
use Rattle.parity_rules.proofs.Kept.{back_set}
use Rattle.parity.proofs.marks.noted.Goals as goal

pub returns-then-b-eq0 : goal.returns-then-b-eq0
returns-then-b-eq0 c = record { room = omega arith; counted = omega arith; kept = λ h. rw c.if-b-eq0.true }

pub returns-then-many-ge12 : goal.returns-then-many-ge12
returns-then-many-ge12 c = record { room = omega arith; counted = omega arith; kept = λ h. absurd (omega arith) }

pub returns : goal.returns
returns c =
    let a = c.args in
    let e : a.b ≡ 1 = omega arith in
    record {
      room = simp length-set (omega arith);
      counted = omega arith;
      kept = λ h. rw (e, add-one a.many, ← c.syndrome_of.ensures) (back_set a.many c.syndrome_of.result a.syns.now (omega arith));
    }
