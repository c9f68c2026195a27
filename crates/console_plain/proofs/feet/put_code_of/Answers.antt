-- `put_code_of` lays 0, the code and the line's end.
use Rattle.text_rules.proofs.Laid.{put_then}
use Rattle.console_rules.specs.Texts.{done_text}
use Rattle.console_plain.proofs.feet.put_code_of.Goals as goal

pub returns : goal.returns
unfolding done_text
returns c = search put_then
