-- `put_list` has laid the lines of the entries before number k.
use Rattle.std.proofs.Common.{◌*◌, drop}
use Rattle.stream.proofs.Lengths.{Going}
use Rattle.console_rules.specs.Station.{status_lines}
use Rattle.console_station.proofs.entries.put_list.Given as goal

abbrev pub invariant-loop-k : goal.invariant-loop-k
invariant-loop-k l =
    Going (82 * l.k) (status_lines 0 l.e-items) l.initial.next l.initial.out (status_lines l.k (drop l.k l.e-items)) l.next l.out
