-- A list whose elements have keys below n is as long as its counts by key add up to; and what bounds on the counts say of the length.
use borrow.Author.Tests.{eq-eqb, ne_eqb}
use Prim.Native.Nat.{ℕ, zero, suc, ◌+◌, ◌*◌, ◌≤◌, ◌<◌}
use native.Mathlib.Nat.{not-suc-le-zero, eq-or-lt_of_le, le_of_suc-le-suc}
use native.Mathlib.Omega.{arith}
use mathlib.Core.Path.{◌≡◌, refl, sym, ap, ◌∙◌}
use mathlib.Core.Logic.{⊎_elim}
use mathlib.Core.List.{List, [], ◌∷◌}
use mathlib.Core.Bool.{Bool}
use lib.ListN.{length}
use lib.Dec.{eqb}
use Rattle.lists.specs.Lists.{pick, count_of, total, All}
use Rattle.lists.proofs.Total.{total_same}

-- f with one more at k
bumped : (ℕ → ℕ) → ℕ → ℕ → ℕ
bumped f k u = pick (eqb k u) (suc (f u)) (f u)

-- not reached: the bump is past the end
total_past : (f : ℕ → ℕ) (k n : ℕ) → n ≤ k → total (bumped f k) n ≡ total f n
unfolding bumped
total_past f k n l = total_same (bumped f k) f n (λ u h. rw (ne_eqb k u (λ (e : k ≡ u). omega arith)))

total_at : (f : ℕ → ℕ) (k n : ℕ) → k < n → total (bumped f k) n ≡ suc (total f n)
unfolding total bumped
total_at f k zero l = absurd (not-suc-le-zero l)
total_at f k (suc n) l =
    ⊎_elim
    (λ (e : k ≡ n). let p = total_past f k n (omega arith) in let q : bumped f k n ≡ suc (f n) = rw (eq-eqb k n e) in omega (arith, p, q))
    (λ (h : k < n). let p = total_at f k n h in let q : bumped f k n ≡ f n = rw (ne_eqb k n (λ (e : k ≡ n). omega arith)) in omega (arith, p, q))
    (eq-or-lt_of_le (le_of_suc-le-suc l))

-- a bound on each count, one of them known, bounds the sum
total_bound : (f : ℕ → ℕ) (n u : ℕ) → u < n → ((v : ℕ) → v < n → f v ≤ 16) → total f n + 16 ≤ 16 * n + f u
unfolding total
total_bound f zero u l h = absurd (not-suc-le-zero l)
total_bound f (suc n) u l h =
    ⊎_elim
    (λ (e : u ≡ n). let p = total_most f n (λ v q. h v (omega arith)) in let q : f u ≡ f n = ap f e in omega (arith, p, q))
    (λ (k : u < n). let p = total_bound f n u k (λ v q. h v (omega arith)) in let q = h n (omega arith) in omega (arith, p, q))
    (eq-or-lt_of_le (le_of_suc-le-suc l))
  where
    total_most : (g : ℕ → ℕ) (m : ℕ) → ((v : ℕ) → v < m → g v ≤ 16) → total g m ≤ 16 * m
    total_most g zero k = omega arith
    total_most g (suc m) k =
        let p = total_most g m (λ v q. k v (omega arith)) in let q = k m (omega arith) in omega (arith, p, q)

module _ {A : Type 0} (key : A → ℕ) where
  abbrev pub keyed : ℕ → A → Bool
  keyed u x = eqb (key x) u

  by_key : (x : A) (v : List A) (u : ℕ) → count_of (keyed u) (x ∷ v) ≡ bumped (λ w. count_of (keyed w) v) (key x) u
  unfolding count_of bumped
  by_key x v u = refl

  zeros : (n : ℕ) → total (λ u. count_of (keyed u) []) n ≡ 0
  unfolding total count_of
  zeros zero = refl
  zeros (suc n) = omega (arith, zeros n)

  pub length_total : (n : ℕ) (v : List A) → All (λ x. key x < n) v → length v ≡ total (λ u. count_of (keyed u) v) n
  unfolding All
  length_total n [] h = sym (zeros n)
  length_total n (x ∷ v) h =
      ap suc (length_total n v h.1)
      ∙ sym (total_same _ _ n (λ u l. by_key x v u) ∙ total_at (λ w. count_of (keyed w) v) (key x) n h.0)

  -- of eight keys with at most 16 elements each, where one has fewer there are fewer than 128 elements
  pub fewer : (v : List A) (u : ℕ) → All (λ x. key x < 8) v → ((w : ℕ) → w < 8 → count_of (keyed w) v ≤ 16) → u < 8 → count_of (keyed u) v < 16 → length v < 128
  fewer v u a h l c = omega (arith, length_total 8 v a, total_bound (λ w. count_of (keyed w) v) 8 u l h)
