-- `model::responses::hides_um` meets its contract: DI 1 and RSS.
use borrow.Author.Tests.{eq-eqb, ne_eqb}
use Rattle.model.proofs.responses.hides_um.Goals as goal

pub returns-then-di-ne1 : goal.returns-then-di-ne1
returns-then-di-ne1 c = simp (ne_eqb _ _ c.if-di-ne1.true)

pub returns : goal.returns
returns c = simp (eq-eqb _ _ c.if-di-ne1.false)
