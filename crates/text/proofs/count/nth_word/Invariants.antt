-- The k-th word: one word after the other.
use Rattle.text.proofs.Nth.{Come}
use Rattle.text.proofs.count.nth_word.Given as goal

abbrev pub invariant-loop : goal.invariant-loop
invariant-loop l = Come l.line l.counter l.w
