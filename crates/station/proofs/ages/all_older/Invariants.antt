-- `station::ages::all_older` meets its contract: a map in place.
use Rattle.lists.proofs.Mapped.{Mapped}
use Rattle.station_rules.specs.State.{older}
use Rattle.station.proofs.ages.all_older.Given as goal

abbrev pub invariant-loop-x : goal.invariant-loop-x
invariant-loop-x l = Mapped older l.initial.x-items l.x-index l.x-items
