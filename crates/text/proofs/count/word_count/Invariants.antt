-- How many words: each takes a byte at least, so the loop ends.
use Prim.Native.Nat.{◌-◌}
use lib.ListN.{length}
use Rattle.text.proofs.Nth.{Counting}
use Rattle.text.proofs.count.word_count.Given as goal

abbrev pub invariant-loop-w : goal.invariant-loop-w
invariant-loop-w l = Counting l.line l.n l.w

abbrev pub decreases-loop-w : goal.decreases-loop-w
decreases-loop-w l = length l.line - l.w.from
