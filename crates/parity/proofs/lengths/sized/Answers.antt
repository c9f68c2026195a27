-- `parity::lengths::sized` meets its contract: the tests of the buffers, then that of the message.
use mathlib.Core.Path.{sym, ◌∙◌}
use borrow.Author.Tests.{eq-eqb, ne_eqb}
use Rattle.parity.proofs.lengths.sized.Goals as goal

pub returns-then-marks-n : goal.returns-then-marks-n
returns-then-marks-n c = let a = c.args in sym (rw (ne_eqb a.marks a.n c.if-marks-n.true))

pub returns-then-out-n : goal.returns-then-out-n
returns-then-out-n c = let a = c.args in sym (rw (eq-eqb a.marks a.n c.if-marks-n.false, ne_eqb a.out a.n c.if-out-n.true))

pub returns-then-is_other : goal.returns-then-is_other
returns-then-is_other c =
    let a = c.args in
    sym (rw (
      eq-eqb a.marks a.n c.if-marks-n.false,
      eq-eqb a.out a.n c.if-out-n.false,
      ne_eqb a.places a.n c.if-is_other.true,
    ))

pub returns : goal.returns
returns c =
    let a = c.args in
    c.seven_or_fourteen.ensures
    ∙ sym (rw (
      eq-eqb a.marks a.n c.if-marks-n.false,
      eq-eqb a.out a.n c.if-out-n.false,
      eq-eqb a.places a.n c.if-is_other.false,
    ))
