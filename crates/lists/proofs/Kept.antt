-- A filter in place over the front of an array that has come to place i and kept k.
use Prim.Native.Nat.{ℕ, ◌+◌, ◌≤◌, ◌<◌, min}
use native.Mathlib.Omega.{arith}
use mathlib.Core.Path.{◌≡◌, refl, sym, ap, ◌∙◌}
use mathlib.Core.List.{List, [], ◌∷◌, ◌++◌}
use mathlib.Core.Bool.{Bool, true, false}
use lib.ListN.{length, get_or, take, set, length-append}
use Rattle.lists.specs.Lists.{pick, filter, over}
use Rattle.lists.proofs.Front.{front_take, take_cut}
use Rattle.lists.proofs.Over.{over_none, over_read, over_push}

module _ {A : Type 0} (p : A → Bool) where
  pick_append : (b : Bool) (y : A) (t w : List A) → pick b (y ∷ (t ++ w)) (t ++ w) ≡ pick b (y ∷ t) t ++ w
  pick_append true y t w = refl
  pick_append false y t w = refl

  pub filter_snoc_yes : (v : List A) (x : A) → p x ≡ true → filter p (v ++ (x ∷ [])) ≡ filter p v ++ (x ∷ [])
  unfolding filter
  filter_snoc_yes [] x h = rw h
  filter_snoc_yes (y ∷ v) x h = rw (filter_snoc_yes v x h) (pick_append (p y) y (filter p v) (x ∷ []))

  pub filter_snoc_no : (v : List A) (x : A) → p x ≡ false → filter p (v ++ (x ∷ [])) ≡ filter p v
  unfolding filter
  filter_snoc_no [] x h = rw h
  filter_snoc_no (y ∷ v) x h = rw (filter_snoc_no v x h)

  -- xs are the slots now, l those at the start
  pub record Kept (l : List A) (i k : ℕ) (xs : List A) : Type 0 where
    pub fewer : k ≤ i
    pub count : length (filter p (take i l)) ≡ k
    pub slots : xs ≡ over (filter p (take i l)) l

  pub kept_none : (l : List A) → Kept l 0 0 l
  unfolding filter
  kept_none l = record { fewer = omega arith; count = refl; slots = sym (over_none l) }

  module _ (l : List A) (i k : ℕ) (xs : List A) (d : A) (b : i < length l) (e : Kept l i k xs) where
    -- what is read at i is still the old slot
    kept_read : get_or xs i d ≡ get_or l i d
    kept_read = ap (λ (t : List A). get_or t i d) e.slots ∙ over_read _ l i d (omega (arith, e.count, e.fewer))

    pub kept_yes : p (get_or xs i d) ≡ true → Kept l (i + 1) (k + 1) (set xs k (get_or xs i d))
    kept_yes h =
        let g : p (get_or l i d) ≡ true = rw kept_read at h in
        let s = ap (filter p) (front_take (i + 1) l i d (omega arith)) ∙ filter_snoc_yes (take i l) (get_or l i d) g in
        record {
          fewer = omega (arith, e.fewer);
          count = ap length s ∙ (simp length-append (omega (arith, e.count)));
          slots = rw (kept_read, e.slots, s) (over_push _ l _ k e.count (omega (arith, e.fewer)));
        }

    pub kept_no : p (get_or xs i d) ≡ false → Kept l (i + 1) k xs
    kept_no h =
        let g : p (get_or l i d) ≡ false = rw kept_read at h in
        let s = ap (filter p) (front_take (i + 1) l i d (omega arith)) ∙ filter_snoc_no (take i l) (get_or l i d) g in
        record { fewer = omega (arith, e.fewer); count = ap length s ∙ e.count; slots = rw s e.slots }

  -- at the end of the first m slots
  module _ (m : ℕ) (l : List A) (i k : ℕ) (xs : List A) (b : i ≡ min m (length l)) (e : Kept l i k xs) where
    all : take i l ≡ take m l
    all = ap (λ (n : ℕ). take n l) b ∙ take_cut m l

    pub kept_all : xs ≡ over (filter p (take m l)) l
    kept_all = rw all at e.slots

    pub kept_count : k ≡ length (filter p (take m l))
    kept_count = sym (rw all at e.count)
