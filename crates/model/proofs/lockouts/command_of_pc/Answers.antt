-- `model::lockouts::command_of_pc` meets its contract: PC 1 or another.
use borrow.Author.Tests.{eq-eqb, ne_eqb}
use Rattle.model.proofs.lockouts.command_of_pc.Goals as goal

pub returns-then-pc-eq1 : goal.returns-then-pc-eq1
returns-then-pc-eq1 c = simp (eq-eqb _ _ c.if-pc-eq1.true)

pub returns : goal.returns
returns c = simp (ne_eqb _ _ c.if-pc-eq1.false)
