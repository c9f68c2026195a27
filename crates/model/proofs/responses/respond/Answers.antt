-- `model::responses::respond` meets its contract: the format that is drawn, with the fields as they are.
use mathlib.Core.Path.{sym, ap, ◌∙◌}
use Rattle.frames_rules.proofs.Unique.{drawn_is}
use Rattle.model_rules.specs.Said.{sent_as}
use Rattle.model.proofs.Steps.{responded, not_drawn}
use Rattle.model.proofs.responses.respond.Goals as goal

pub returns-in_err-df : goal.returns-in_err-df
returns-in_err-df c =
    not_drawn _ c.args.t.now _ _ _ _ (sym (drawn_is _ _ c.drawn.result c.drawn.ensures) ∙ c.in_err-df.was) (ap sent_as c.from_residual.ensures)

pub returns : goal.returns
returns c =
    responded _ c.args.t.now _ _ _ _ _ _ _ _ _ (sym (drawn_is _ _ c.drawn.result c.drawn.ensures) ∙ c.in_ok-df.was)
    c.dr_of-dr.ensures c.um_of-um.ensures c.value_of-value.ensures c.mb_of-mb.ensures c.send.ensures
