-- `is_long` compares with the two numbers.
use borrow.Author.Tests.{eq-eqb, ne_eqb}
use Rattle.console_plain.proofs.values.is_long.Goals as goal

pub returns-then-f-eq20 : goal.returns-then-f-eq20
returns-then-f-eq20 c = simp (eq-eqb _ _ c.if-f-eq20.true)

pub returns : goal.returns
returns c = simp (ne_eqb _ _ c.if-f-eq20.false)
