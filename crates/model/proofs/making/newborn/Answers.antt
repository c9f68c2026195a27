-- `model::making::newborn` meets its contract: field by field.
use mathlib.Core.Path.{refl}
use Rattle.model_rules.specs.Calls.{newborn}
use Rattle.model.proofs.making.newborn.Goals as goal

pub returns : goal.returns
unfolding newborn
returns c = refl
