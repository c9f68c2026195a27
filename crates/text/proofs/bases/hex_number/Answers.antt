-- Digits read one by one: what is still to be read says the rest.
use native.Mathlib.Omega.{arith}
use Rattle.text.proofs.HexNumbers.{hex_outside, hex_other, begins, said, fits, digit_more}
use Rattle.text.proofs.bases.hex_number.Goals as goal

pub returns-then-is_empty : goal.returns-then-is_empty
returns-then-is_empty c = grind (arith, hex_outside, hex_other)

pub loop-b-init : goal.loop-b-init
loop-b-init c = begins _ (grind arith)

pub overflow_add-value : goal.overflow_add-value
overflow_add-value c = omega (arith, fits c.loop-b.invariant c.loop-b-test.true c.if-digits-gt8.false c.hex_value.ensures)

pub loop-b-preserved : goal.loop-b-preserved
loop-b-preserved c = digit_more c.loop-b.invariant c.loop-b-test.true c.hex_value.ensures

pub returns : goal.returns
returns c = said c.loop-b.invariant c.loop-b-test.false (grind arith) c.if-digits-gt8.false
