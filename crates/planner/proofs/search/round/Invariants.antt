-- `round` has gone past the first entries, as far as it came.
use Prim.Native.Nat.{ℕ, ◌≤◌}
use mathlib.Core.Path.{◌≡◌}
use mathlib.Core.List.{List}
use lib.ListN.{length, take}
use Rattle.planner_rules.specs.declared.request.Ask.{Ask}
use Rattle.planner_rules.specs.declared.entry.Entry.{Entry}
use Rattle.planner_rules.specs.Exchange.{exchange_of, entry_at}
use Rattle.planner_rules.specs.Fits.{clear_of}
use Rattle.planner.specs.Promises.{held, Shown, Step}
use Rattle.planner.proofs.search.round.Given as goal

abbrev pub invariant-loop-i : goal.invariant-loop-i
invariant-loop-i l =
    ((a : Ask) (es : List Entry) → l.p ≡ held (exchange_of a) → l.address ≡ a.request.address → l.n ≤ length es → Shown l.rows l.n es
    → Step (λ (j : ℕ). clear_of (entry_at a j) (take l.i es)) l.fn.t l.start)
    × (l.fn.t ≤ l.start) × (l.start ≤ 200000)
