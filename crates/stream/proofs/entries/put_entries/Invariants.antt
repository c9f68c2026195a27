-- `put_entries` has put the lines of the entries before number k.
use Rattle.std.proofs.Common.{◌*◌, drop}
use Rattle.stream_rules.specs.Lines.{entry_lines}
use Rattle.stream.proofs.Lengths.{Going}
use Rattle.stream.proofs.entries.put_entries.Given as goal

abbrev pub invariant-loop-k : goal.invariant-loop-k
invariant-loop-k l =
    Going (72 * l.k) (entry_lines 0 l.e-items) l.initial.next l.initial.out (entry_lines l.k (drop l.k l.e-items)) l.next l.out
