-- `first_fit` answers the smallest start that fits.
use Prim.Native.Nat.{◌-◌, ◌≤◌}
use mathlib.Core.List.{List}
use lib.ListN.{length}
use Rattle.planner_rules.specs.declared.entry.Entry.{Entry}
use Rattle.planner.specs.Promises.{Shown}
use Rattle.planner.proofs.Steps.{Below}
use Rattle.planner.proofs.search.first_fit.Given as goal

abbrev pub invariant-loop-t : goal.invariant-loop-t
invariant-loop-t l = ((es : List Entry) → l.n ≤ length es → Shown l.rows l.n es → Below l.l l.a l.n es l.t) × (l.t ≤ 200000)

abbrev pub decreases-loop-t : goal.decreases-loop-t
decreases-loop-t l = 200000 - l.t
