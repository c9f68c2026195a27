-- What the checks of a correction say where they are passed.
use mathlib.Core.Path.{◌≡◌, refl}
use mathlib.Core.Bool.{true, false, ◌&&◌}
use mathlib.Core.Logic.{◌⊎◌, inl, inr, ⊎_elim}
use mathlib.Core.List.{List, [], ◌∷◌}
use Prim.Native.Nat.{ℕ, ◌<◌, ◌≤◌}
use native.Mathlib.Omega.{arith}
use lib.Dec.{eqb, leb, ltb}
use lib.ListN.{length}
use borrow.Author.Tests.{eqb-true, eqb-false, ltb-true, ltb-false, lt-ltb, le-leb}
use Rattle.lists.proofs.Tests.{and_true, and_yes, or_true}
use Rattle.parity_rules.specs.Messages.{seven_or_fourteen}
use Rattle.parity_rules.specs.Correction.{first, sized, ranged}

-- ---- the sizes
either_of : (n : ℕ) → (eqb n 7 ≡ true) ⊎ (eqb n 14 ≡ true) → (n ≡ 7) ⊎ (n ≡ 14)
either_of n (inl e) = inl (eqb-true n 7 e)
either_of n (inr e) = inr (eqb-true n 14 e)

pub record Sizes (n m r p : ℕ) : Type 0 where
  pub marks : m ≡ n
  pub output : r ≡ n
  pub places : p ≡ n
  pub either : (n ≡ 7) ⊎ (n ≡ 14)
  pub most : n ≤ 14

pub sizes : (n m r p : ℕ) → sized n m r p ≡ true → Sizes n m r p
sizes n m r p h =
    let a = and_true (eqb m n && eqb r n && eqb p n) (seven_or_fourteen n) h in
    let b = and_true (eqb m n && eqb r n) (eqb p n) a.0 in
    let c = and_true (eqb m n) (eqb r n) b.0 in
    let e = either_of n (or_true (eqb n 7) (eqb n 14) a.1) in
    record {
      marks = eqb-true m n c.0;
      output = eqb-true r n c.1;
      places = eqb-true p n b.1;
      either = e;
      most = ⊎_elim (λ q. omega arith) (λ q. omega arith) e;
    }

-- ---- the ranges
pub ranged_in : (overlay limit : ℕ) → overlay < 16777216 → limit ≤ 12 → ranged overlay limit ≡ true
ranged_in overlay limit h l = and_yes (ltb overlay 16777216) (leb limit 12) (lt-ltb overlay 16777216 h) (le-leb limit 12 l)

-- ---- how many match
pub one : (l : List (List ℕ)) → length l ≡ 1 → l ≡ first l ∷ []
one [] e = absurd (omega arith)
one (s ∷ []) e = refl
one (s ∷ t ∷ l) e = absurd (omega arith)

pub only_match : (l : List (List ℕ)) → eqb (length l) 0 ≡ false → ltb 1 (length l) ≡ false → l ≡ first l ∷ []
only_match l a b = one l (omega (arith, eqb-false (length l) 0 a, ltb-false 1 (length l) b))

pub no_match : (l : List (List ℕ)) → eqb (length l) 0 ≡ true → l ≡ []
no_match [] e = refl
no_match (s ∷ l) e = absurd (omega (arith, eqb-true (length (s ∷ l)) 0 e))

pub two_match : (l : List (List ℕ)) → ltb 1 (length l) ≡ true → (s : List ℕ) × (t : List ℕ) × (r : List (List ℕ)) × (l ≡ s ∷ t ∷ r)
two_match [] e = absurd (omega (arith, ltb-true 1 0 e))
two_match (s ∷ []) e = absurd (omega (arith, ltb-true 1 1 e))
two_match (s ∷ t ∷ l) e = (s, t, l, refl)
