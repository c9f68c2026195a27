-- `put_all` has laid the numbers of the marked bits before place i.
use Prim.Native.Nat.{◌+◌, ◌*◌, ◌≤◌}
use mathlib.Core.Path.{◌≡◌}
use lib.ListN.{length, drop}
use Rattle.text_rules.specs.Put.{numbers_behind}
use Rattle.text_rules.proofs.Laid.{Still}
use Rattle.parity_rules.specs.Messages.{bits}
use Rattle.parity_rules.specs.Places.{places_in}
use Rattle.places.proofs.Laying.{text_from}
use Rattle.places.proofs.text_of.put_all.Given as goal

abbrev pub invariant-loop-i : goal.invariant-loop-i
invariant-loop-i l =
    (l.n ≡ length l.marks * 8) × (l.end ≤ length l.out)
    × Still (numbers_behind (places_in l.marks)) l.at l.initial.out (text_from (l.i + 1) (drop l.i (bits l.marks))) l.end l.out
