-- `one_more` adds one to the count of a unit.
use native.Mathlib.Omega.{arith}
use mathlib.Core.Path.{sym}
use lib.Seq.{set_out}
use Rattle.planner.proofs.plan.one_more.Goals as goal

pub returns-then-unit-ge8 : goal.returns-then-unit-ge8
returns-then-unit-ge8 c = sym (set_out c.args.counts.now c.args.unit _ (omega (arith, c.requires.0, c.if-unit-ge8.true)))
