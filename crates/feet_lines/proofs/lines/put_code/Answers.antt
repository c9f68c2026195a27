-- `put_code` lays the code and its answer.
use Rattle.text_rules.proofs.Laid.{put_then}
use Rattle.console_rules.specs.FeetLines.{code_text}
use Rattle.feet_lines.proofs.lines.put_code.Goals as goal

pub returns : goal.returns
unfolding code_text
returns c = search put_then
