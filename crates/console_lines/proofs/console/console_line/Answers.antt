-- `console_line` says nothing behind quit, answers a line that is too long, or goes by its words.
use Rattle.console_lines.proofs.Lines.{stays, stays_silent, too_long_fits, whole}
use Rattle.console_lines.proofs.console.console_line.Goals as goal

pub returns-then-b : goal.returns-then-b
returns-then-b c = search (whole, stays_silent)

pub returns-then-line-gt1000 : goal.returns-then-line-gt1000
returns-then-line-gt1000 c = search (whole, stays, too_long_fits)

pub returns : goal.returns
returns c = search whole
