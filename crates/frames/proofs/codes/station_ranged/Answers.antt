-- `frames::codes::station_ranged` meets its contract: each range in turn.
use mathlib.Core.Path.{sym}
use Rattle.frames_rules.proofs.Lines.{ranges}
use Rattle.frames.proofs.codes.station_ranged.Goals as goal

pub returns-then-cl-gt7 : goal.returns-then-cl-gt7
returns-then-cl-gt7 c = sym (search ranges depth 12)

pub returns-then-ic-gt15 : goal.returns-then-ic-gt15
returns-then-ic-gt15 c = sym (search ranges depth 12)

pub returns : goal.returns
returns c = search ranges depth 12
