-- The k-th line: one line after the other.
use Rattle.text.proofs.NthLine.{line_next, line_come}
use Rattle.text.proofs.count.nth_line.Goals as goal

pub loop-preserved : goal.loop-preserved
loop-preserved c = search line_next

pub returns : goal.returns
returns c = search line_come
