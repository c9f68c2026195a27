-- `alone_in` is the unit's share among zeros.
use mathlib.Core.Path.{refl}
use Rattle.planner_rules.specs.Plan.{alone}
use Rattle.planner.proofs.plan.alone_in.Goals as goal

pub returns : goal.returns
unfolding alone
returns c = refl
