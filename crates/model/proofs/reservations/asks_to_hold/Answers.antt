-- `model::reservations::asks_to_hold` meets its contract: test by test.
use borrow.Author.Tests.{eq-eqb, ne_eqb}
use Rattle.model.proofs.reservations.asks_to_hold.Goals as goal

pub returns-then-di-ne1 : goal.returns-then-di-ne1
returns-then-di-ne1 c = simp (ne_eqb _ _ c.if-di-ne1.true)

pub returns-then-sd-ne1 : goal.returns-then-sd-ne1
returns-then-sd-ne1 c = simp (eq-eqb _ _ c.if-di-ne1.false, ne_eqb _ _ c.if-sd-ne1.true)

pub returns : goal.returns
returns c = simp (eq-eqb _ _ c.if-di-ne1.false, eq-eqb _ _ c.if-sd-ne1.false, ← c.iis.ensures.0)
