-- `frames::read::all_call` meets its contract: each value from its field.
use mathlib.Core.Path.{refl}
use Rattle.frames_rules.specs.Reading.{all_call_read}
use Rattle.frames.proofs.read.all_call.Goals as goal

pub returns : goal.returns
unfolding all_call_read
returns c = refl
