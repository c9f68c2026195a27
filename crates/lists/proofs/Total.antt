-- A sum that a loop makes, sums of fewer numbers and of the same ones, and a count as a sum.
use Prim.Native.Nat.{ℕ, zero, suc, ◌+◌, ◌≤◌, ◌<◌}
use native.Mathlib.Decide.{le_ind}
use native.Mathlib.Nat.{le_refl}
use native.Mathlib.Numerals.{add-one}
use native.Mathlib.Omega.{arith}
use mathlib.Core.Path.{◌≡◌, refl}
use mathlib.Core.Bool.{Bool}
use Rattle.lists.specs.Lists.{pick, count_below, total}

module _ (f : ℕ → ℕ) where
  pub total_none : 0 ≡ total f 0
  unfolding total
  total_none = refl

  pub total_more : (i n : ℕ) → n ≡ total f i → n + f i ≡ total f (i + 1)
  unfolding total
  total_more i n e = rw (add-one i) (omega arith)

  pub total_suc : (n : ℕ) → total f (suc n) ≡ total f n + f n
  unfolding total
  total_suc n = refl

  pub total_le : (n m : ℕ) → n ≤ m → total f n ≤ total f m
  unfolding total
  total_le n m h = le_ind (λ (m : ℕ). total f n ≤ total f m) (le_refl _) (λ m h ih. omega (arith, ih)) m h

pub total_same : (f g : ℕ → ℕ) (n : ℕ) → ((u : ℕ) → u < n → f u ≡ g u) → total f n ≡ total g n
unfolding total
total_same f g zero h = refl
total_same f g (suc n) h =
    let a = total_same f g n (λ u l. h u (omega arith)) in
    let b = h n (omega arith) in
    rw (a, b)

-- how many numbers pass a test: one for each that does
pub count_total : (p : ℕ → Bool) (n : ℕ) → count_below p n ≡ total (λ u. pick (p u) 1 0) n
unfolding count_below total
count_total p zero = refl
count_total p (suc n) = omega (arith, count_total p n)
