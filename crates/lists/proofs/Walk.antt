-- A walk over a list that has come to place i with r: going on from r, over what is left, comes to what the whole comes to.
use Prim.Native.Nat.{ℕ, ◌+◌, ◌≤◌, ◌<◌}
use native.Mathlib.Numerals.{add-one}
use mathlib.Core.Path.{◌≡◌}
use mathlib.Core.List.{List, [], ◌∷◌}
use lib.ListN.{length, get_or, drop, drop_of_length-le}
use lib.Seq.{drop-cons}

-- f r l: what r comes to over l, an element at a time by g
module _ {A R X : Type 0} (f : R → List A → X) (g : R → A → R) (step : (r : R) (x : A) (l : List A) → f r (x ∷ l) ≡ f (g r x) l) where
  abbrev pub Walked : List A → R → ℕ → R → Type 0
  Walked l a i r = f r (drop i l) ≡ f a l

  module _ (l : List A) (a : R) (i : ℕ) (r : R) (w : Walked l a i r) where
    pub walked_more : (q : R) (d : A) → i < length l → q ≡ g r (get_or l i d) → Walked l a (i + 1) q
    walked_more q d h e = rw (add-one i, e, ← step, ← drop-cons l i d h) w

    pub walked_all : length l ≤ i → f r [] ≡ f a l
    walked_all h = rw (drop_of_length-le l {i = i} h) at w
