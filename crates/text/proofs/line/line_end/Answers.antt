-- The first newline at or after a place, by a run of bytes that are none.
use Rattle.text_rules.specs.Line.{line_end}
use Rattle.text_rules.proofs.Lines.{line_stops, line_goes, line_to}
use Rattle.text.proofs.Ends.{ends}
use Rattle.text.proofs.line.line_end.Goals as goal

pub returns-then-s-i-eq10 : goal.returns-then-s-i-eq10
unfolding line_end
returns-then-s-i-eq10 c = line_to _ _ (search (ends, line_stops))

pub loop-i-preserved : goal.loop-i-preserved
loop-i-preserved c = search (ends, line_goes)

pub returns : goal.returns
unfolding line_end
returns c = line_to _ _ (search ends)
