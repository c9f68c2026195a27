-- `put_list` has laid the lines of the targets before the one that comes.
use Rattle.std.proofs.Common.{◌*◌, drop}
use Rattle.stream.proofs.Lengths.{Going}
use Rattle.console_rules.specs.Station.{target_lines}
use Rattle.console_station.proofs.listing.put_list.Given as goal

abbrev pub invariant-loop-t : goal.invariant-loop-t
invariant-loop-t l =
    Going (84 * l.t-index) (target_lines l.t-items) l.initial.next l.initial.out (target_lines (drop l.t-index l.t-items)) l.next l.out
