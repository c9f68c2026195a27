-- Slots that all hold the same.
use Prim.Native.Nat.{ℕ, zero, suc}
use mathlib.Core.Path.{◌≡◌, refl, ap}
use mathlib.Core.List.{List, ◌∷◌}
use lib.ListN.{set, replicate}

-- writing it once more changes nothing
pub same_set : {A : Type 0} (n : ℕ) (x : A) (i : ℕ) → set (replicate n x) i x ≡ replicate n x
same_set zero x i = refl
same_set (suc n) x zero = refl
same_set {A} (suc n) x (suc i) = ap {B = List A} (λ r. x ∷ r) (same_set n x i)
