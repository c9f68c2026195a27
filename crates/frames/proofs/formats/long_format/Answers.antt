-- `frames::formats::long_format` meets its contract: the two numbers.
use borrow.Author.Tests.{eq-eqb, ne_eqb}
use Rattle.frames.proofs.formats.long_format.Goals as goal

pub returns-then-f-eq20 : goal.returns-then-f-eq20
returns-then-f-eq20 c = simp (eq-eqb _ _ c.if-f-eq20.true)

pub returns : goal.returns
returns c = simp (ne_eqb _ _ c.if-f-eq20.false)
