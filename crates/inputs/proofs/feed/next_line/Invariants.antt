-- `next_line` takes what the piece has of the line, and then piece after piece, as long as there are turns.
use mathlib.Core.Path.{◌≡◌}
use lib.ListN.{length}
use Rattle.inputs.proofs.First.{Held}
use Rattle.io.specs.Counts.{IsPrefixLen}
use Rattle.inputs.proofs.feed.next_line.Given as goal

abbrev pub invariant-loop : goal.invariant-loop
invariant-loop g l =
    IsPrefixLen l.got l.piece × IsPrefixLen l.size l.line × (length l.piece ≡ length l.initial.piece) × (length l.line ≡ length l.initial.line)
    × Held l.initial.piece l.initial.line l.initial.got l.initial.at l.piece l.line l.got l.at l.size l.counter
