-- `run` keeps its buffers as large as they were.
use Rattle.std.proofs.Common.{◌≡◌, length}
use Rattle.feet_lines.proofs.program.run.Given as goal

abbrev pub invariant-loop : goal.invariant-loop
invariant-loop g l = (length l.piece ≡ length l.initial.piece) × (length l.line ≡ 1001) × (length l.out ≡ 32)
