-- `parity::marks::gather` meets its contract. The invariant: the places from n - k on are gathered.
use mathlib.Core.Path.{◌≡◌}
use Prim.Native.Nat.{◌-◌, ◌*◌, ◌≤◌}
use lib.ListN.{length, drop}
use Rattle.parity_rules.specs.Messages.{bits}
use Rattle.parity_rules.specs.Steps.{Gathered}
use Rattle.parity.proofs.marks.gather.Given as goal

abbrev pub invariant-loop-k : goal.invariant-loop-k
invariant-loop-k l =
    (l.n ≡ length l.marks * 8) × (l.many ≤ l.k) × (length l.syns ≡ 12) × Gathered (drop (l.n - l.k) (bits l.marks)) l.many l.syns
