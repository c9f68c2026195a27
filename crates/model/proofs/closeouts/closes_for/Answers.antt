-- `model::closeouts::closes_for` meets its contract: test by test.
use borrow.Author.Tests.{eq-eqb, ne_eqb}
use Rattle.model.proofs.closeouts.closes_for.Goals as goal

pub returns-then-di-ne1 : goal.returns-then-di-ne1
returns-then-di-ne1 c = simp (ne_eqb _ _ c.if-di-ne1.true)

pub returns-then-sd-ne2 : goal.returns-then-sd-ne2
returns-then-sd-ne2 c = simp (eq-eqb _ _ c.if-di-ne1.false, ne_eqb _ _ c.if-sd-ne2.true)

pub returns : goal.returns
returns c = simp (eq-eqb _ _ c.if-di-ne1.false, eq-eqb _ _ c.if-sd-ne2.false, ← c.iis.ensures.0)
