-- A test of the numbers below n: one a turn in a loop, or computed over all of them.
use Prim.Native.Nat.{ℕ, zero, suc, ◌+◌, ◌<◌}
use native.Mathlib.Nat.{eq-or-lt_of_le, le_of_suc-le-suc, not-suc-le-zero}
use native.Mathlib.Numerals.{add-one}
use mathlib.Core.Path.{◌≡◌, refl, sym, subst}
use mathlib.Core.Logic.{⊎_elim}
use mathlib.Core.Bool.{Bool, true, false}
use lib.Dec.{eqb, ltb}
use borrow.Author.Tests.{eqb-true, ltb-true}
use Rattle.lists.specs.Lists.{every}
use Rattle.lists.proofs.Tests.{and_left, and_right, and_no_left, and_no_right, and_yes}

module _ (p : ℕ → Bool) where
  pub every_none : every p 0 ≡ true
  unfolding every
  every_none = refl

  pub every_more : (i : ℕ) → every p i ≡ true → p i ≡ true → every p (i + 1) ≡ true
  unfolding every
  every_more i e h = rw (add-one i) (and_yes (every p i) (p i) e h)

  pub every_fails : (n i : ℕ) → i < n → p i ≡ false → every p n ≡ false
  unfolding every
  every_fails zero i l h = absurd (not-suc-le-zero l)
  every_fails (suc n) i l h =
      ⊎_elim
      (λ (e : i ≡ n). and_no_right (every p n) (p n) (subst (λ (k : ℕ). p k ≡ false) e h))
      (λ (k : i < n). and_no_left (every p n) (p n) (every_fails n i k h))
      (eq-or-lt_of_le (le_of_suc-le-suc l))

  pub every_at : (n i : ℕ) → every p n ≡ true → i < n → p i ≡ true
  unfolding every
  every_at zero i e l = absurd (not-suc-le-zero l)
  every_at (suc n) i e l =
      ⊎_elim
      (λ (q : i ≡ n). subst (λ (k : ℕ). p k ≡ true) (sym q) (and_right (every p n) (p n) e))
      (λ (k : i < n). every_at n i (and_left (every p n) (p n) e) k)
      (eq-or-lt_of_le (le_of_suc-le-suc l))

-- two functions that agree on every number below n
pub equal_below : (f g : ℕ → ℕ) (n : ℕ) → every (λ k. eqb (f k) (g k)) n ≡ true → (k : ℕ) → k < n → f k ≡ g k
equal_below f g n h k l = eqb-true (f k) (g k) (every_at (λ k. eqb (f k) (g k)) n k h l)

-- a function that stays below m on every number below n
pub less_below : (f : ℕ → ℕ) (m n : ℕ) → every (λ k. ltb (f k) m) n ≡ true → (k : ℕ) → k < n → f k < m
less_below f m n h k l = ltb-true (f k) m (every_at (λ k. ltb (f k) m) n k h l)
