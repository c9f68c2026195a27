-- `parity::division::remainder_of` meets its contract. The invariant: dividing on from here, over the bytes left, gives the message's remainder.
use mathlib.Core.Path.{◌≡◌}
use Prim.Native.Nat.{◌<◌}
use lib.ListN.{drop}
use Rattle.parity_rules.specs.Messages.{bits}
use Rattle.parity_rules.specs.Division.{divide}
use Rattle.parity.proofs.division.remainder_of.Given as goal

abbrev pub invariant-loop-b : goal.invariant-loop-b
invariant-loop-b l = (l.r < 16777216) × (divide l.r (bits (drop l.b-index l.msg)) ≡ divide 0 (bits l.msg))
