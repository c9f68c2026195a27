-- A map in place over an array that has come to place i.
use Prim.Native.Nat.{ℕ, ◌+◌, ◌≤◌, ◌<◌, min}
use native.Mathlib.Omega.{arith}
use mathlib.Core.Path.{◌≡◌, sym, ap, ◌∙◌}
use mathlib.Core.List.{List, ◌++◌, map}
use lib.ListN.{length, get_or, take, drop, set, length-map, length-take}
use Rattle.lists.specs.Lists.{over}
use Rattle.lists.proofs.Front.{take_cut}
use Rattle.lists.proofs.Over.{over_read}
use Rattle.lists.proofs.Copied.{Copied, copied_none, copied_more, copied_all, copied_front}

module _ {A : Type 0} (f : A → A) where
  -- the slots xs: the first i images over what stood there
  pub record Mapped (l : List A) (i : ℕ) (xs : List A) : Type 0 where
    pub slots : Copied f l l i xs

  pub mapped_none : (l : List A) → Mapped l 0 l
  mapped_none l = record { slots = copied_none f l l }

  pub mapped_more : (l : List A) (i : ℕ) (xs : List A) (d : A) → i < length l → Mapped l i xs → (y : A) → y ≡ f (get_or xs i d) → Mapped l (i + 1) (set xs i y)
  mapped_more l i xs d b m y h =
      let n : length (map f (take i l)) ≡ i = length-map (take i l) f ∙ length-take i l ∙ (omega arith) in
      let e : get_or xs i d ≡ get_or l i d = ap (λ (t : List A). get_or t i d) m.slots ∙ over_read (map f (take i l)) l i d (omega (arith, n)) in
      let k : y ≡ f (get_or l i d) = h ∙ ap f e in
      record { slots = rw k (copied_more f l l i xs d b b m.slots) }

  pub mapped_all : (l : List A) (i : ℕ) (xs : List A) → length l ≤ i → Mapped l i xs → xs ≡ map f l
  mapped_all l i xs b m = copied_all f l l i xs b (omega arith) m.slots

  -- at the end of the first m
  pub mapped_front : (m : ℕ) (l : List A) (i : ℕ) (xs : List A) → i ≡ min m (length l) → Mapped l i xs → xs ≡ over (map f (take m l)) l
  mapped_front m l i xs b e = copied_front f m l l i xs b e.slots

  -- a map in place of the first n slots, which are the first m where there are so many: what stands behind them is as it was
  module _ (m : ℕ) (l : List A) (n : ℕ) (e : n ≡ length (take m l)) where
    front : take n l ≡ take m l
    front = ap (λ (k : ℕ). take k l) (e ∙ length-take m l) ∙ take_cut m l

    pub slots_count : n ≡ length (map f (take m l))
    slots_count = e ∙ sym (length-map (take m l) f)

    pub slots_mapped : (i : ℕ) (xs : List A) → length (take n l) ≤ i → Mapped (take n l) i xs → xs ++ drop n l ≡ over (map f (take m l)) l
    unfolding over
    slots_mapped i xs b k =
        let a : xs ≡ map f (take m l) = mapped_all (take n l) i xs b k ∙ ap (map f) front in
        rw (a, slots_count)
