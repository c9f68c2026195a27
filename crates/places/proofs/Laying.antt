-- The text of the places from a bit on: that of the bit, then that of those behind it; and which buffers are told whole.
use Prim.Native.Nat.{ℕ, zero, suc, ◌+◌, ◌*◌, ◌<◌, ◌≤◌, min}
use native.Mathlib.Nat.{min_comm}
use native.Mathlib.Numerals.{add-one}
use native.Mathlib.Omega.{arith}
use mathlib.Core.Path.{◌≡◌, refl, sym, ap, ◌∙◌}
use mathlib.Core.List.{List, [], ◌∷◌, ◌++◌, append-nil}
use lib.ListN.{length, get_or, take, drop, drop_of_length-le}
use lib.Seq.{drop-cons, take_all}
use Rattle.lists.proofs.Front.{take_cut}
use Rattle.text_rules.specs.Put.{Put, decimal, numbers_behind}
use Rattle.parity_rules.specs.Messages.{bits}
use Rattle.parity_rules.specs.Places.{places_from, places_in}
use Rattle.parity_rules.proofs.Bits.{bits_length}

-- the text of the places of some bits, the first of which is bit n
abbrev pub text_from : ℕ → List ℕ → List ℕ
text_from n s = numbers_behind (places_from n s)

-- ---- one bit
pub unmarked : (n b : ℕ) → b ≡ 0 → text_from n (b ∷ []) ≡ []
unfolding places_from numbers_behind
unmarked n b e = rw e

pub marked : (n b : ℕ) → (b ≡ 0 → ⊥) → text_from n (b ∷ []) ≡ (32 ∷ []) ++ decimal n
unfolding places_from numbers_behind
marked n zero h = absurd (h refl)
marked n (suc b) h = append-nil (32 ∷ decimal n)

split : (n b : ℕ) (s : List ℕ) → text_from n (b ∷ s) ≡ text_from n (b ∷ []) ++ text_from (suc n) s
unfolding places_from numbers_behind
split n zero s = refl
split n (suc b) s = ap (λ (t : List ℕ). t ++ text_from (suc n) s) (sym (append-nil (32 ∷ decimal n)))

-- ---- the bits of a mark buffer from place i on
module _ (marks : List ℕ) (i : ℕ) where
  pub next_place : i < length marks * 8 → (b : ℕ) → b ≡ get_or (bits marks) i 0
      → text_from (i + 1) (drop i (bits marks)) ≡ text_from (i + 1) (b ∷ []) ++ text_from (i + 1 + 1) (drop (i + 1) (bits marks))
  next_place h b e =
      let d = drop-cons (bits marks) i 0 (omega (arith, bits_length marks)) in
      ap (text_from (i + 1)) d ∙ split (i + 1) (get_or (bits marks) i 0) (drop (suc i) (bits marks))
      ∙ (rw (← e, add-one i, add-one (suc i)))

  pub no_more : length marks * 8 ≤ i → text_from (i + 1) (drop i (bits marks)) ≡ []
  unfolding places_from numbers_behind
  no_more h =
      let d : drop i (bits marks) ≡ [] = drop_of_length-le (bits marks) {i = i} (omega (arith, bits_length marks)) in
      ap (text_from (i + 1)) d

-- ---- the front of a mark buffer that is told
pub told_front : (marks : List ℕ) (n : ℕ) → n ≡ min (length marks) 124 → take n marks ≡ take 124 marks
told_front marks n e = ap (λ (k : ℕ). take k marks) (e ∙ min_comm (length marks) 124) ∙ take_cut 124 marks

-- a mark buffer of at most 124 bytes is told whole
pub told_whole : (marks : List ℕ) {at r : ℕ} {l m : List ℕ} → length marks ≤ 124 → Put (numbers_behind (places_in (take 124 marks))) at l m r
    → Put (numbers_behind (places_in marks)) at l m r
told_whole marks h p = rw (take_all 124 marks h) at p
