-- `station::planning::join` meets its contract: each request with its edges.
use Rattle.lists.proofs.Copied.{Copied}
use Rattle.station_rules.specs.Planning.{ask_for}
use Rattle.station.proofs.planning.join.Given as goal

abbrev pub invariant-loop-i : goal.invariant-loop-i
invariant-loop-i l = Copied (ask_for l.t) l.w.list l.initial.list l.i l.list
