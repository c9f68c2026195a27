-- `put_eleven` lays 0, the numbers and the remainder.
use Rattle.text_rules.proofs.Laid.{put_then}
use Rattle.console_rules.specs.Texts.{done_text}
use Rattle.console_plain.proofs.Frames.{numbers_then}
use Rattle.console_plain.proofs.values.put_eleven.Goals as goal

pub returns : goal.returns
unfolding done_text
returns c = search (put_then, numbers_then)
