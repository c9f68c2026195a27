-- `put_counted` lays a text, a number and a text.
use Rattle.text_rules.proofs.Laid.{put_then}
use Rattle.console_lines.proofs.reasons.put_counted.Goals as goal

pub returns : goal.returns
returns c = search put_then
