-- `frames::part::mb_part` meets its contract: the length decides.
use borrow.Author.Tests.{eq-eqb, ne_eqb}
use Rattle.frames.proofs.part.mb_part.Goals as goal

pub returns-then-buf-ne14 : goal.returns-then-buf-ne14
returns-then-buf-ne14 c = simp (ne_eqb _ _ c.if-buf-ne14.true)

pub returns : goal.returns
returns c = simp (eq-eqb _ _ c.if-buf-ne14.false)
