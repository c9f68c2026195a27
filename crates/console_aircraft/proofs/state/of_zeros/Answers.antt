-- `of_zeros` is a new transponder of zeros.
use mathlib.Core.Path.{refl}
use Rattle.model_rules.specs.Calls.{newborn}
use Rattle.console_aircraft.proofs.state.of_zeros.Goals as goal

pub returns : goal.returns
unfolding newborn
returns c = refl
