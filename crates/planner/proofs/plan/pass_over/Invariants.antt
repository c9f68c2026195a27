-- `pass_over` is one pass over what waits.
use mathlib.Core.Path.{◌≡◌}
use lib.ListN.{length}
use Rattle.planner.specs.Promises.{Shown}
use Rattle.planner.proofs.Passing.{Passing}
use Rattle.planner.proofs.plan.pass_over.Given as goal

abbrev pub invariant-loop-i : goal.invariant-loop-i
invariant-loop-i l =
    Passing l.l l.limits l.fn.b l.i l.counts (record { placed = l.placed; entries = l.entries; waiting = l.waiting; asks = l.asks })
    × (length l.limits ≡ 8) × (length l.entries ≡ 128) × Shown l.rows l.placed l.entries
