-- `put_whose` lays the word or the refusal, one case of the answer after the other.
use Prim.Native.Nat.{ℕ}
use mathlib.Core.Path.{◌≡◌, ap, ◌∙◌}
use mathlib.Core.List.{List}
use Rattle.std.specs.Prelude.{Result, Ok}
use Rattle.refusals.specs.declared.refusal.Refusal.{Refusal}
use Rattle.text_rules.specs.Put.{Put}
use Rattle.text_rules.proofs.Laid.{put_case}
use Rattle.text_rules.specs.Line.{same_as}
use Rattle.frames_rules.specs.Answers.{code_said}
use Rattle.frames_rules.specs.declared.answers.Code.{Code}
use Rattle.console_rules.specs.Texts.{answer_text, done_text}
use Rattle.console_rules.specs.Frames.{code_word, whose_text}
use Rattle.console_plain.proofs.code.put_whose.Goals as goal

-- the answer's case
said : {a b : Result Code Refusal} {at q : ℕ} {l m : List ℕ} → a ≡ b → Put (whose_text (code_said b)) at l m q → Put (whose_text (code_said a)) at l m q
said e p = put_case (λ (x : Result Code Refusal). whose_text (code_said x)) e p

pub returns-in-Ok-Own : goal.returns-in-Ok-Own
unfolding whose_text answer_text code_word same_as done_text
returns-in-Ok-Own c =
    let e = rw c.in-Ok-Own.is at c.in-Ok-Own.field-0-is in
    said (c.in-Ok-Own.is ∙ ap (λ (x : Code). Ok x) e) c.put_bytes.ensures

pub returns-in-Ok-Matching : goal.returns-in-Ok-Matching
unfolding whose_text answer_text code_word same_as done_text
returns-in-Ok-Matching c =
    let e = rw c.in-Ok-Matching.is at c.in-Ok-Matching.field-0-is in
    said (c.in-Ok-Matching.is ∙ ap (λ (x : Code). Ok x) e) c.put_bytes-in-Ok-Matching.ensures

pub returns-in-Ok-Other : goal.returns-in-Ok-Other
unfolding whose_text answer_text code_word same_as done_text
returns-in-Ok-Other c =
    let e = rw c.in-Ok-Other.is at c.in-Ok-Other.field-0-is in
    said (c.in-Ok-Other.is ∙ ap (λ (x : Code). Ok x) e) c.put_bytes-in-Ok-Other.ensures

pub returns-in-Err : goal.returns-in-Err
unfolding whose_text
returns-in-Err c = said c.in-Err.is (c.put_refused.ensures _)
