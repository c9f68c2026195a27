-- A map from an array into the slots of another that has come to place i.
use Prim.Native.Nat.{ℕ, ◌+◌, ◌≤◌, ◌<◌, min}
use native.Mathlib.Omega.{arith}
use mathlib.Core.Path.{◌≡◌, refl, sym, ap, ◌∙◌}
use mathlib.Core.List.{List, [], ◌∷◌, ◌++◌, map, append-nil}
use lib.ListN.{length, get_or, take, drop, set, length-map, length-take, drop_of_length-le}
use lib.Seq.{take_all}
use Rattle.lists.specs.Lists.{over}
use Rattle.lists.proofs.Front.{front_take, take_cut}
use Rattle.lists.proofs.Over.{over_none, over_push}

module _ {A B : Type 0} (f : A → B) where
  map_snoc : (v : List A) (x : A) → map f (v ++ (x ∷ [])) ≡ map f v ++ (f x ∷ [])
  map_snoc [] x = refl
  map_snoc (y ∷ v) x = ap (λ (t : List B). f y ∷ t) (map_snoc v x)

  -- the slots xs: the first i images over what stood there
  abbrev pub Copied : List A → List B → ℕ → List B → Type 0
  Copied l base i xs = xs ≡ over (map f (take i l)) base

  pub copied_none : (l : List A) (base : List B) → Copied l base 0 base
  copied_none l base = sym (over_none base)

  pub copied_more : (l : List A) (base : List B) (i : ℕ) (xs : List B) (d : A) → i < length l → i < length base → Copied l base i xs
      → Copied l base (i + 1) (set xs i (f (get_or l i d)))
  copied_more l base i xs d b k e =
      let n : length (map f (take i l)) ≡ i = length-map (take i l) f ∙ length-take i l ∙ (omega arith) in
      let s : map f (take (i + 1) l) ≡ map f (take i l) ++ (f (get_or l i d) ∷ []) = ap (map f) (front_take (i + 1) l i d (omega arith)) ∙ map_snoc (take i l)
      (get_or l i d) in
      rw (e, s) (over_push (map f (take i l)) base (f (get_or l i d)) i n k)

  pub copied_all : (l : List A) (base : List B) (i : ℕ) (xs : List B) → length l ≤ i → length base ≤ length l → Copied l base i xs → xs ≡ map f l
  unfolding over
  copied_all l base i xs b k e =
      let all : take i l ≡ l = take_all i l b in
      let none : drop (length (map f l)) base ≡ [] = drop_of_length-le base {i = length (map f l)} (omega (arith, length-map l f)) in
      e ∙ (rw (all, none) (append-nil (map f l)))

  -- at the end of the first m
  pub copied_front : (m : ℕ) (l : List A) (base : List B) (i : ℕ) (xs : List B) → i ≡ min m (length l) → Copied l base i xs → xs ≡ over (map f (take m l)) base
  copied_front m l base i xs b e = e ∙ ap (λ (v : List A). over (map f v) base) (ap (λ (n : ℕ). take n l) b ∙ take_cut m l)

  pub copied_count : (m : ℕ) (l : List A) (k : ℕ) → k ≡ min m (length l) → k ≡ length (map f (take m l))
  copied_count m l k e = e ∙ sym (length-map (take m l) f ∙ length-take m l)
