-- A search for the first element over the front of an array, and where the place found is.
use Prim.Native.Nat.{ℕ, suc, ◌+◌, ◌≤◌, ◌<◌, min}
use native.Mathlib.Omega.{arith}
use mathlib.Core.Path.{◌≡◌, refl, ap, ◌∙◌}
use mathlib.Core.List.{List, [], ◌∷◌}
use mathlib.Core.Bool.{Bool, true, false}
use lib.ListN.{get_or, take, drop, length}
use Rattle.lists.specs.Lists.{index_of}
use Rattle.lists.proofs.Front.{front_drop, front_end}

module _ {A : Type 0} (p : A → Bool) where
  pub index_nil : index_of p [] ≡ 0
  unfolding index_of
  index_nil = refl

  pub index_yes : (x : A) (v : List A) → p x ≡ true → index_of p (x ∷ v) ≡ 0
  unfolding index_of
  index_yes x v h = rw h

  pub index_no : (x : A) (v : List A) → p x ≡ false → index_of p (x ∷ v) ≡ suc (index_of p v)
  unfolding index_of
  index_no x v h = rw h

  -- the loop's invariant: what is still to be searched decides
  abbrev pub Sought : ℕ → List A → ℕ → Type 0
  Sought m l i = index_of p (take m l) ≡ i + index_of p (drop i (take m l))

  module _ (m : ℕ) (l : List A) (i : ℕ) (d : A) (b : i < min m (length l)) (e : Sought m l i) where
    pub found : p (get_or l i d) ≡ true → i ≡ index_of p (take m l)
    found h = omega (arith, e, ap (index_of p) (front_drop m l i d b) ∙ index_yes _ _ h)

    pub passed : p (get_or l i d) ≡ false → Sought m l (i + 1)
    passed h = omega (arith, e, ap (index_of p) (front_drop m l i d b) ∙ index_no _ _ h)

  pub not_found : (m : ℕ) (l : List A) (i : ℕ) → min m (length l) ≤ i → Sought m l i → i ≡ index_of p (take m l)
  not_found m l i b e = omega (arith, e, ap (index_of p) (front_end m l i b) ∙ index_nil)
