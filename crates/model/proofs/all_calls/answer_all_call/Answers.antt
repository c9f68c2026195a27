-- `model::all_calls::answer_all_call` meets its contract: by its code and the draw.
use mathlib.Core.Path.{refl}
use Rattle.frames_rules.proofs.Unique.{code_is}
use Rattle.model.proofs.Steps.{unanswered, answered}
use Rattle.model.proofs.all_calls.answer_all_call.Goals as goal

pub returns-then-not-answers_code : goal.returns-then-not-answers_code
returns-then-not-answers_code c =
    unanswered _ c.args.t.now _ _ _ _ _ _ (code_is _ _ c.code_for-code.result c.code_for-code.ensures)
    c.answers_code.ensures c.if-not-answers_code.true refl

pub returns : goal.returns
returns c =
    answered _ c.args.t.now _ _ _ _ _ _ (code_is _ _ c.code_for-code.result c.code_for-code.ensures)
    c.answers_code.ensures c.if-not-answers_code.false c.send_all_call.ensures
