-- A walk over the front of an array: the list is the first m of the slots l, `take m l`, and the walk has come to place i.
use Prim.Native.Nat.{ℕ, zero, suc, ◌+◌, ◌≤◌, ◌<◌, min}
use native.Mathlib.Nat.{min-le_left, zero-min, min-zero, suc-min-suc}
use native.Mathlib.Numerals.{add-one}
use native.Mathlib.Omega.{arith}
use mathlib.Core.Path.{◌≡◌, sym, ap, ◌∙◌}
use mathlib.Core.List.{List, [], ◌∷◌, ◌++◌, map}
use lib.ListN.{length, get_or, take, drop, length-take, drop_of_length-le, length-map}
use lib.Seq.{drop-cons, get_or-take, take-suc}

-- an array of structs stands in what is known of a parameter at the elements' tuples: `search (needs, length-mapped)` gives its length
pub length_mapped : (X Y : Type 0) (f : X → Y) (l : List X) (n : ℕ) → length (map f l) ≡ n → length l ≡ n
length_mapped X Y f l n e = sym (length-map l f) ∙ e

-- the element at i, before what is still to come and after what has been
module _ {A : Type 0} (m : ℕ) (l : List A) (i : ℕ) (d : A) (b : i < min m (length l)) where
  i<m : i < m
  i<m = omega (arith, b, min-le_left m (length l))

  within : i < length (take m l)
  within = simp length-take b

  pub front_drop : drop i (take m l) ≡ get_or l i d ∷ drop (i + 1) (take m l)
  front_drop = drop-cons (take m l) i d within ∙ (rw (get_or-take m l i d i<m, add-one i))

  pub front_take : take (i + 1) l ≡ take i l ++ (get_or l i d ∷ [])
  front_take = rw (add-one i) (take-suc l i d (omega (arith, b)))

-- at the end nothing is to come
pub front_end : {A : Type 0} (m : ℕ) (l : List A) (i : ℕ) → min m (length l) ≤ i → drop i (take m l) ≡ []
front_end m l i b =
    let h : length (take m l) ≤ i = simp length-take b in
    drop_of_length-le (take m l) h

-- a count that is cut to the slots counts the same elements
pub take_cut : {A : Type 0} (m : ℕ) (l : List A) → take (min m (length l)) l ≡ take m l
take_cut zero l = rw (zero-min (length l))
take_cut (suc m) [] = rw (min-zero (suc m))
take_cut {A} (suc m) (x ∷ l) = rw (suc-min-suc m (length l)) (ap {B = List A} (λ r. x ∷ r) (take_cut m l))
