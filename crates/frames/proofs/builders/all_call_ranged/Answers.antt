-- `frames::builders::all_call_ranged` meets its contract: each range in turn.
use mathlib.Core.Path.{sym}
use Rattle.frames_rules.specs.Building.{all_call_ranged}
use Rattle.frames_rules.proofs.Lines.{ranges}
use Rattle.frames.proofs.builders.all_call_ranged.Goals as goal

pub returns-then-pr-gt15 : goal.returns-then-pr-gt15
unfolding all_call_ranged
returns-then-pr-gt15 c = sym (search ranges depth 12)

pub returns-then-ic-gt15 : goal.returns-then-ic-gt15
unfolding all_call_ranged
returns-then-ic-gt15 c = sym (search ranges depth 12)

pub returns : goal.returns
unfolding all_call_ranged
returns c = search ranges depth 12
