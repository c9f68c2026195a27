-- `print_stream` has each record taken and writes its lines; the bytes left fall with every step, so it ends.
use Rattle.std.proofs.Common.{◌≤◌, length}
use Rattle.stream_rules.proofs.Runs.{left}
use Rattle.stream_lines.proofs.print_stream.Given as goal

abbrev pub invariant-loop-run : goal.invariant-loop-run
invariant-loop-run g l = l.held ≤ length l.lines

abbrev pub decreases-loop-run : goal.decreases-loop-run
decreases-loop-run g l = left l.s l.run
