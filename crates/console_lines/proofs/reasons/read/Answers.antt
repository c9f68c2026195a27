-- `read` finds the row, and judges the line.
use Rattle.console_lines.proofs.Judging.{no_line, its_line}
use Rattle.console_lines.proofs.reasons.read.Goals as goal

pub returns-in_default : goal.returns-in_default
returns-in_default c = no_line _ _ _ c.find_row.ensures c.in_default.is

pub returns : goal.returns
returns c = its_line _ _ _ c.find_row.ensures c.in-Some.is c.judge.ensures
