-- `feet_line` answers a line that is too long, or goes by its words.
use Rattle.feet_lines.proofs.Texts.{long_line, short_line}
use Rattle.feet_lines.proofs.lines.feet_line.Goals as goal

pub returns-then-line-gt1000 : goal.returns-then-line-gt1000
returns-then-line-gt1000 c = search long_line

pub returns : goal.returns
returns c = search short_line
