-- `eight_at` has read the numbers before place i, each of eight bits.
use Rattle.text_rules.specs.Line.{words_of}
use Rattle.console_station.proofs.Widths.{Reading}
use Rattle.console_station.proofs.held.eight_at.Given as goal

abbrev pub invariant-loop-i : goal.invariant-loop-i
invariant-loop-i l = Reading l.k (words_of l.line) l.initial.out l.i l.out
