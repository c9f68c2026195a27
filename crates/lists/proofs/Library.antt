-- The library's words for a search and a count are ours.
use Rattle.std.specs.Prelude.{Some, None, position, count_by, cond}
use Rattle.std.specs.List.{position_or_len}
use Rattle.std.proofs.lemmas.List.Recursion.{is_count_by}
use Prim.Native.Nat.{suc, ◌+◌}
use native.Mathlib.Omega.{arith}
use mathlib.Core.Path.{◌≡◌, refl, sym}
use mathlib.Core.List.{List, [], ◌∷◌}
use mathlib.Core.Bool.{Bool, true, false, not}
use lib.ListN.{length}
use lib.Dec.{ltb}
use Rattle.lists.specs.Lists.{pick, index_of, count_of}

module _ {A : Type 0} (p : A → Bool) where
  pub index_is : (v : List A) → position_or_len p v ≡ index_of p v
  unfolding index_of
  index_is [] = refl
  index_is (x ∷ v) = go (p x) (index_is v)
    where
      go : (b : Bool) → position_or_len p v ≡ index_of p v → cond (not b) (1 + position_or_len p v) 0 ≡ pick b 0 (suc (index_of p v))
      go true e = refl
      go false e = omega (arith, e)

  pub position_is : (v : List A) → position p v ≡ pick (ltb (index_of p v) (length v)) (Some (index_of p v)) None
  position_is v = rw (index_is v)

  pub count_is : (v : List A) → count_by p v ≡ count_of p v
  unfolding count_of
  count_is v = sym (is_count_by (count_of p) p refl more v)
    where
      more : (x : A) (xs : List A) → count_of p (x ∷ xs) ≡ cond (p x) (1 + count_of p xs) (count_of p xs)
      more x xs = go (p x)
        where
          go : (b : Bool) → pick b (suc (count_of p xs)) (count_of p xs) ≡ cond b (1 + count_of p xs) (count_of p xs)
          go true = omega arith
          go false = refl
