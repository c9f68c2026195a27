-- `model::lockouts::command_of_sd` meets its contract: by DI.
use borrow.Author.Tests.{eq-eqb, ne_eqb}
use mathlib.Core.Path.{◌∙◌}
use Rattle.model_rules.specs.Lockout.{command_of_sd}
use Rattle.model.proofs.lockouts.command_of_sd.Goals as goal

pub returns-then-di-eq3 : goal.returns-then-di-eq3
unfolding command_of_sd
returns-then-di-eq3 c = c.si_started.ensures ∙ (simp c.if-di-eq3.true)

pub returns-then-di-eq1 : goal.returns-then-di-eq1
unfolding command_of_sd
returns-then-di-eq1 c = c.ii_started.ensures ∙ (simp (eq-eqb _ _ c.if-di-eq1.true))

pub returns-then-di-eq7 : goal.returns-then-di-eq7
unfolding command_of_sd
returns-then-di-eq7 c = c.ii_started-then-di-eq7.ensures ∙ (simp (ne_eqb _ _ c.if-di-eq1.false, eq-eqb _ _ c.if-di-eq7.true))

pub returns : goal.returns
unfolding command_of_sd
returns c = simp (ne_eqb _ _ c.if-di-eq3.false, ne_eqb _ _ c.if-di-eq1.false, ne_eqb _ _ c.if-di-eq7.false)
