-- `station::entries::withdraw_all` meets its contract: a map in place.
use Rattle.lists.proofs.Mapped.{Mapped}
use Rattle.station_rules.specs.State.{withdrawn}
use Rattle.station.proofs.entries.withdraw_all.Given as goal

abbrev pub invariant-loop-e : goal.invariant-loop-e
invariant-loop-e l = Mapped (withdrawn l.address) l.initial.e-items l.e-index l.e-items
