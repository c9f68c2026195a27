-- A list that is written over the front of the slots, one element a turn.
use Prim.Native.Nat.{ℕ, zero, suc, ◌+◌, ◌-◌, ◌≤◌, ◌<◌}
use native.Mathlib.Omega.{arith}
use mathlib.Core.Path.{◌≡◌, refl, sym, ap, ◌∙◌}
use mathlib.Core.List.{List, [], ◌∷◌, ◌++◌}
use lib.ListN.{length, get_or, take, drop, set, length-append, length-drop, length-set}
use lib.Seq.{drop-cons, take_at, set-append_seam, set-append_left, append_snoc, drop-append-add, drop-drop, get_or-append-add, get_or-drop}
use Rattle.lists.specs.Lists.{over}

module _ {A : Type 0} where
  pub over_none : (l : List A) → over [] l ≡ l
  unfolding over
  over_none l = refl

  pub length_over : (v l : List A) → length v ≤ length l → length (over v l) ≡ length l
  unfolding over
  length_over v l h = simp (length-append, length-drop) (omega arith)

  -- what the first slots hold then
  pub take_over : (v l : List A) → take (length v) (over v l) ≡ v
  unfolding over
  take_over v l = take_at v _ (length v) refl

  -- the slots are what they are with their own front laid over them
  self : (m : ℕ) (l : List A) → take m l ++ drop (length (take m l)) l ≡ l
  self zero l = refl
  self (suc m) [] = refl
  self (suc m) (x ∷ l) = ap {B = List A} (λ r. x ∷ r) (self m l)

  pub over_self : (m : ℕ) (l : List A) → over (take m l) l ≡ l
  unfolding over
  over_self m l = self m l

  -- a read at or past the end of what is written is one of the old slots
  pub over_read : (v l : List A) (i : ℕ) (d : A) → length v ≤ i → get_or (over v l) i d ≡ get_or l i d
  unfolding over
  over_read v l i d h =
      let e : length v + (i - length v) ≡ i = omega arith in
      let s : get_or (v ++ drop (length v) l) (length v + (i - length v)) d ≡ get_or l (length v + (i - length v)) d = get_or-append-add v (drop (length v) l)
      (i - length v) d ∙ get_or-drop (length v) l (i - length v) d in
      rw e at s

  -- one more is written
  push : (v l : List A) (x : A) → length v < length l → set (over v l) (length v) x ≡ over (v ++ (x ∷ [])) l
  unfolding over
  push v l x h =
      let n : length (v ++ (x ∷ [])) ≡ suc (length v) = simp length-append (omega arith) in
      rw (drop-cons l (length v) x h, set-append_seam, n) (sym (append_snoc v x (drop (suc (length v)) l)))

  pub over_push : (v l : List A) (x : A) (k : ℕ) → length v ≡ k → k < length l → set (over v l) k x ≡ over (v ++ (x ∷ [])) l
  over_push v l x k e h = rw (← e) (push v l x (omega arith))

  -- a list laid over another that is no longer hides it
  pub over_over : (v w l : List A) → length v ≤ length w → over w (over v l) ≡ over w l
  unfolding over
  over_over v w l h =
      let e : length v + (length w - length v) ≡ length w = omega arith in
      let s : drop (length v + (length w - length v)) (v ++ drop (length v) l) ≡ drop (length v + (length w - length v)) l = drop-append-add v
      (drop (length v) l) (length w - length v) ∙ drop-drop (length w - length v) (length v) l in
      ap (λ (t : List A). w ++ t) (rw e at s)

  -- one more after the first m slots
  pub front_push : (m : ℕ) (l : List A) (x : A) (k : ℕ) → k ≡ length (take m l) → k < length l → set l k x ≡ over (take m l ++ (x ∷ [])) l
  front_push m l x k e h = let s = over_push (take m l) l x k (sym e) h in rw (over_self m l) at s

  -- one of the first m slots is written anew
  pub front_set : (m : ℕ) (l : List A) (i : ℕ) (y : A) → i < length (take m l) → set l i y ≡ over (set (take m l) i y) l
  unfolding over
  front_set m l i y h =
      let s = set-append_left (take m l) (drop (length (take m l)) l) i y h in
      rw (length-set (take m l) i y) (rw (self m l) at s)
