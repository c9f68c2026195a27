-- `put_number` lays the number and a space.
use Rattle.text_rules.proofs.Laid.{put_then}
use Rattle.console_rules.specs.Frames.{number_text}
use Rattle.console_plain.proofs.values.put_number.Goals as goal

pub returns : goal.returns
unfolding number_text
returns c = search put_then
