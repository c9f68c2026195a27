-- `put_written` lays the code or its refusal.
use Rattle.std.specs.Prelude.{ℕ, Result}
use Rattle.text_rules.proofs.Laid.{put_case}
use Rattle.refusals.specs.declared.refusal.Refusal.{Refusal}
use Rattle.altitude_rules.specs.WayBack.{written_said}
use Rattle.console_rules.specs.Texts.{answer_text}
use Rattle.console_rules.specs.Feet.{written_text}
use Rattle.console_plain.proofs.ByWords.{written_refused}
use Rattle.console_plain.proofs.feet.put_written.Goals as goal

pub returns-in-Ok : goal.returns-in-Ok
unfolding written_text answer_text
returns-in-Ok c = put_case (λ (w : Result ℕ Refusal). written_text (written_said w)) c.in-Ok.is c.put_code_of.ensures

pub returns-in-Err : goal.returns-in-Err
returns-in-Err c = put_case (λ (w : Result ℕ Refusal). written_text (written_said w)) c.in-Err.is (written_refused _ c.from.ensures c.put_refusal.ensures)
