-- The bytes left fall with every step, and what is held fits the buffer.
use Rattle.stream.proofs.Shown.{falls_after, shown_count}
use Rattle.stream_lines.proofs.print_stream.Goals as goal

pub loop-run-smaller : goal.loop-run-smaller
loop-run-smaller g c = search falls_after

pub loop-run-preserved : goal.loop-run-preserved
loop-run-preserved g c = (shown_count c.advance-held.ensures).0
