-- `model::frames_taken::take` meets its contract: check by check.
use mathlib.Core.Path.{refl, ◌∙◌}
use Rattle.lists.proofs.Checks.{all, stop, end, tests}
use Rattle.model_rules.specs.Calls.{not_taken, taking}
use Rattle.model.proofs.Steps.{took_is}
use Rattle.model.proofs.frames_taken.take.Goals as goal

pub returns-then-not-seven_or_fourteen : goal.returns-then-not-seven_or_fourteen
unfolding taking
returns-then-not-seven_or_fourteen c = stop (not_taken _) _ 1 all (search tests depth 12) (search tests)

pub returns-then-draw-gt15 : goal.returns-then-draw-gt15
unfolding taking
returns-then-draw-gt15 c = stop (not_taken _) _ 2 all (search tests depth 12) (search tests)

pub returns-then-time-t : goal.returns-then-time-t
unfolding taking
returns-then-time-t c = stop (not_taken _) _ 15 all (search tests depth 12) (search tests)

pub returns : goal.returns
unfolding taking
returns c = took_is _ _ _ _ _ _ _ c.lapse.ensures c.comes.ensures refl ∙ end (not_taken _) _ all (search tests depth 12)
