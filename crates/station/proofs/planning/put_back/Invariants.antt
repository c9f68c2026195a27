-- `station::planning::put_back` meets its contract: each request into the slots.
use Rattle.std.proofs.Common.{◌≡◌, length}
use Rattle.lists.proofs.Copied.{Copied}
use Rattle.station_rules.specs.Planning.{request_of}
use Rattle.station.proofs.planning.put_back.Given as goal

abbrev pub invariant-loop-i : goal.invariant-loop-i
invariant-loop-i l = Copied request_of l.asks l.initial.w.list l.i l.w.list × (length l.w.list ≡ length l.initial.w.list)
