-- How long a number with its sign is.
use Prim.Native.Nat.{ℕ, suc, ◌+◌, ◌-◌, ◌^◌, ◌<◌, ◌≤◌}
use native.Mathlib.Omega.{arith}
use mathlib.Core.Path.{◌≡◌, refl}
use mathlib.Core.Bool.{Bool, true, false}
use lib.Dec.{ltb}
use lib.IntN.{sub_ℕ}
use lib.ListN.{length}
use Rattle.text_rules.specs.Signed.{signed_decimal}
use Rattle.text_rules.proofs.Decimal.{decimal_fits}

pub signed_fits : (a b : ℕ) → a < 2 ^ 31 → b < 2 ^ 31 → length (signed_decimal (sub_ℕ a b)) ≤ 11
unfolding signed_decimal
signed_fits a b ha hb = go (ltb a b) refl
  where
    go : (t : Bool) → ltb a b ≡ t → length (signed_decimal (sub_ℕ a b)) ≤ 11
    go true e = rw e (omega (arith, decimal_fits (b - suc a + 1) (omega arith)))
    go false e = rw e (omega (arith, decimal_fits (a - b) (omega arith)))
