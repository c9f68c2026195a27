-- A count over the front of an array, and how a count goes with one element more.
use Prim.Native.Nat.{ℕ, suc, ◌+◌, ◌≤◌, ◌<◌, min}
use native.Mathlib.Omega.{arith}
use mathlib.Core.Path.{◌≡◌, refl, ap, ◌∙◌}
use mathlib.Core.List.{List, [], ◌∷◌, ◌++◌}
use mathlib.Core.Bool.{Bool, true, false}
use lib.ListN.{length, get_or, take, drop}
use Rattle.lists.specs.Lists.{pick, count_of}
use Rattle.lists.proofs.Front.{front_drop, front_end}

module _ {A : Type 0} (p : A → Bool) where
  pub count_nil : count_of p [] ≡ 0
  unfolding count_of
  count_nil = refl

  pub count_yes : (x : A) (v : List A) → p x ≡ true → count_of p (x ∷ v) ≡ suc (count_of p v)
  unfolding count_of
  count_yes x v h = rw h

  pub count_no : (x : A) (v : List A) → p x ≡ false → count_of p (x ∷ v) ≡ count_of p v
  unfolding count_of
  count_no x v h = rw h

  -- the loop's invariant: what is counted, and what is still to be counted
  abbrev pub Counted : ℕ → List A → ℕ → ℕ → Type 0
  Counted m l i k = count_of p (take m l) ≡ k + count_of p (drop i (take m l))

  module _ (m : ℕ) (l : List A) (i k : ℕ) (d : A) (b : i < min m (length l)) (e : Counted m l i k) where
    pub counted : p (get_or l i d) ≡ true → Counted m l (i + 1) (k + 1)
    counted h = omega (arith, e, ap (count_of p) (front_drop m l i d b) ∙ count_yes _ _ h)

    pub uncounted : p (get_or l i d) ≡ false → Counted m l (i + 1) k
    uncounted h = omega (arith, e, ap (count_of p) (front_drop m l i d b) ∙ count_no _ _ h)

  pub all_counted : (m : ℕ) (l : List A) (i k : ℕ) → min m (length l) ≤ i → Counted m l i k → k ≡ count_of p (take m l)
  all_counted m l i k b e = omega (arith, e, ap (count_of p) (front_end m l i b) ∙ count_nil)

  -- one element more, in front or behind
  abbrev pub one : A → ℕ
  one x = pick (p x) 1 0

  count_one : (b : Bool) (n : ℕ) → pick b (suc n) n ≡ pick b 1 0 + n
  count_one true n = omega arith
  count_one false n = omega arith

  pub count_cons : (x : A) (v : List A) → count_of p (x ∷ v) ≡ one x + count_of p v
  unfolding count_of
  count_cons x v = count_one (p x) (count_of p v)

  pub count_snoc : (v : List A) (x : A) → count_of p (v ++ (x ∷ [])) ≡ count_of p v + one x
  count_snoc [] x = omega (arith, count_cons x [], count_nil)
  count_snoc (y ∷ v) x = omega (arith, count_cons y (v ++ (x ∷ [])), count_cons y v, count_snoc v x)

  pub count_snoc_yes : (v : List A) (x : A) → p x ≡ true → count_of p (v ++ (x ∷ [])) ≡ suc (count_of p v)
  count_snoc_yes v x h =
      let q : one x ≡ 1 = rw h in
      omega (arith, count_snoc v x)

  pub count_snoc_no : (v : List A) (x : A) → p x ≡ false → count_of p (v ++ (x ∷ [])) ≡ count_of p v
  count_snoc_no v x h =
      let q : one x ≡ 0 = rw h in
      omega (arith, count_snoc v x)

  -- no more are counted than there are
  pub count_le : (v : List A) → count_of p v ≤ length v
  count_le [] = omega (arith, count_nil)
  count_le (x ∷ v) = go (p x) refl (count_le v)
    where
      go : (b : Bool) → p x ≡ b → count_of p v ≤ length v → count_of p (x ∷ v) ≤ suc (length v)
      go true e h = omega (arith, count_yes x v e)
      go false e h = omega (arith, count_no x v e)
