-- `put_refusal` lays the number and the line's end.
use Rattle.text_rules.proofs.Laid.{put_then}
use Rattle.console_rules.specs.Texts.{refusal_text}
use Rattle.console_plain.proofs.answers.put_refusal.Goals as goal

pub returns : goal.returns
unfolding refusal_text
returns c = search put_then
