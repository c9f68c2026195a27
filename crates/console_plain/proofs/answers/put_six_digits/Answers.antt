-- `put_six_digits` lays 0, six digits and the line's end.
use Rattle.text_rules.proofs.Laid.{put_then}
use Rattle.console_rules.specs.Texts.{done_text}
use Rattle.console_plain.proofs.answers.put_six_digits.Goals as goal

pub returns : goal.returns
unfolding done_text
returns c = search put_then
