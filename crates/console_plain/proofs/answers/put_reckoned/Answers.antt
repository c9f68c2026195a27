-- `put_reckoned` lays the number or its refusal, one case of the answer after the other.
use Prim.Native.Nat.{ℕ}
use Rattle.std.specs.Prelude.{Result}
use Rattle.refusals.specs.declared.refusal.Refusal.{Refusal}
use Rattle.text_rules.proofs.Laid.{put_case}
use Rattle.parity_rules.specs.Answers.{reckoned_said}
use Rattle.console_rules.specs.Texts.{answer_text}
use Rattle.console_rules.specs.Parity.{reckoned_text}
use Rattle.console_plain.proofs.answers.put_reckoned.Goals as goal

pub returns-in-Ok : goal.returns-in-Ok
unfolding reckoned_text answer_text
returns-in-Ok c = search (put_case (λ (a : Result ℕ Refusal). reckoned_text (reckoned_said a)))

pub returns-in-Err : goal.returns-in-Err
unfolding reckoned_text
returns-in-Err c = put_case (λ (a : Result ℕ Refusal). reckoned_text (reckoned_said a)) c.in-Err.is (c.put_refused.ensures _)
