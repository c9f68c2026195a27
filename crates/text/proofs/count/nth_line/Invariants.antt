-- The k-th line: one line after the other.
use Rattle.text.proofs.NthLine.{LineCome}
use Rattle.text.proofs.count.nth_line.Given as goal

abbrev pub invariant-loop : goal.invariant-loop
invariant-loop l = LineCome l.s l.counter l.at
