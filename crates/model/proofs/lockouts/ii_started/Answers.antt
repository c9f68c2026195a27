-- `model::lockouts::ii_started` meets its contract: by LOS.
use borrow.Author.Tests.{eq-eqb, ne_eqb}
use Rattle.model_rules.specs.Lockout.{started_by_los}
use Rattle.model.proofs.lockouts.ii_started.Goals as goal

pub returns-then-sd-eq1 : goal.returns-then-sd-eq1
unfolding started_by_los
returns-then-sd-eq1 c = simp (eq-eqb _ _ c.if-sd-eq1.true, c.iis.ensures.0)

pub returns : goal.returns
unfolding started_by_los
returns c = simp (ne_eqb _ _ c.if-sd-eq1.false)
