-- `model::lockouts::si_started` meets its contract: by LSS and SI.
use borrow.Author.Tests.{eq-eqb, ne_eqb}
use Rattle.model_rules.specs.Lockout.{started_by_lss}
use Rattle.model.proofs.lockouts.si_started.Goals as goal

pub returns-then-sd-ne1 : goal.returns-then-sd-ne1
unfolding started_by_lss
returns-then-sd-ne1 c = simp (ne_eqb _ _ c.if-sd-ne1.true)

pub returns-then-si-eq0 : goal.returns-then-si-eq0
unfolding started_by_lss
returns-then-si-eq0 c = simp (eq-eqb _ _ c.if-sd-ne1.false, eq-eqb _ _ c.if-si-eq0.true)

pub returns : goal.returns
unfolding started_by_lss
returns c = simp (eq-eqb _ _ c.if-sd-ne1.false, ne_eqb _ _ c.if-si-eq0.false)
