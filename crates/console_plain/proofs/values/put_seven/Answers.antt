-- `put_seven` lays 0, five numbers and what ends the line.
use Rattle.text_rules.proofs.Laid.{put_then}
use Rattle.console_rules.specs.Texts.{done_text}
use Rattle.console_rules.specs.Frames.{values_text}
use Rattle.console_plain.proofs.Frames.{numbers_then}
use Rattle.console_plain.proofs.values.put_seven.Goals as goal

pub returns : goal.returns
unfolding done_text values_text
returns c = search (put_then, numbers_then)
