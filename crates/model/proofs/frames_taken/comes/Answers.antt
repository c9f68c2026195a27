-- `model::frames_taken::comes` meets its contract: by what was read.
use mathlib.Core.Path.{refl, ap, ◌∙◌}
use Rattle.std.specs.Prelude.{Ok}
use Rattle.frames_rules.specs.declared.answers.Up.{Up}
use Rattle.model_rules.specs.Calls.{comes}
use Rattle.model.proofs.Steps.{comes_as}
use Rattle.model.proofs.frames_taken.comes.Goals as goal

pub returns-in-Ok-Selective : goal.returns-in-Ok-Selective
unfolding comes
returns-in-Ok-Selective c =
    comes_as _ _ c.read_up.ensures _ _ _ _ (c.in-Ok-Selective.is ∙ ap (λ (u : Up). Ok u) c.in-Ok-Selective.field-0-is) c.selective_comes.ensures

pub returns-in-Ok-AllCall : goal.returns-in-Ok-AllCall
unfolding comes
returns-in-Ok-AllCall c =
    comes_as _ _ c.read_up.ensures _ _ _ _ (c.in-Ok-AllCall.is ∙ ap (λ (u : Up). Ok u) c.in-Ok-AllCall.field-0-is) c.all_call_comes.ensures

pub returns-in-Err : goal.returns-in-Err
unfolding comes
returns-in-Err c = comes_as _ _ c.read_up.ensures _ _ _ _ c.in-Err.is refl
