-- `model::responses::bds2` meets its contract: by DI.
use borrow.Author.Tests.{eq-eqb, ne_eqb}
use Rattle.model.proofs.responses.bds2.Goals as goal

pub returns-then-di-eq7 : goal.returns-then-di-eq7
returns-then-di-eq7 c = simp (eq-eqb _ _ c.if-di-eq7.true)

pub returns-then-di-eq3 : goal.returns-then-di-eq3
returns-then-di-eq3 c = simp (ne_eqb _ _ c.if-di-eq7.false, eq-eqb _ _ c.if-di-eq3.true)

pub returns : goal.returns
returns c = simp (ne_eqb _ _ c.if-di-eq7.false, ne_eqb _ _ c.if-di-eq3.false)
