-- Laws of a word read as a decimal number, for a loop that has come to a place of it.
use Rattle.std.specs.Prelude.{Option, Some, None, nat_eq}
use lib.Pointwise.{pointwise}
use Prim.Native.Nat.{ℕ, ◌+◌, ◌-◌, ◌*◌, ◌^◌, ◌≤◌, ◌<◌}
use native.Mathlib.Numerals.{add-one}
use native.Mathlib.Omega.{arith}
use mathlib.Core.Path.{◌≡◌, refl, sym, ap, ◌∙◌}
use mathlib.Core.Logic.{◌⊎◌, inl, inr}
use mathlib.Core.List.{List, [], ◌∷◌}
use mathlib.Core.Bool.{Bool, true, false, ◌&&◌, and-false}
use lib.Seq.{drop-cons}
use lib.ListN.{length, get_or, drop, drop_of_length-le}
use lib.Dec.{ltb}
use borrow.Author.Tests.{lt-ltb, le-ltb, le-leb, lt-leb}
use Rattle.lists.specs.Lists.{pick}
use Rattle.text_rules.specs.Line.{same_as}
use Rattle.text_rules.specs.Number.{between, is_digit, all_digits, value_after, number_in}

-- ---- the ranges of digits

module _ (low high b : ℕ) where
  pub in_range_is : low ≤ b → b ≤ high → between low high b ≡ true
  unfolding between
  in_range_is h k = rw (le-leb low b h, le-leb b high k)

  pub under : b < low → between low high b ≡ false
  unfolding between
  under h = rw (lt-leb low b h)

  pub over : low ≤ b → high < b → between low high b ≡ false
  unfolding between
  over h k = rw (le-leb low b h, lt-leb b high k)

-- ---- a word of digits

-- what the bytes w make of the value v of the digits before them
unfoldable pub judged : ℕ → List ℕ → Option ℕ
judged v w = pick (all_digits w && ltb (value_after v w) (2 ^ 32)) (Some (value_after v w)) None

pub number_none : (most : ℕ) (w : List ℕ) → length w ≡ 0 → number_in most w ≡ None
unfolding number_in
number_none most [] h = refl
number_none most (b ∷ w) h = absurd (omega arith)

pub number_long : (most : ℕ) (w : List ℕ) → most < length w → number_in most w ≡ None
unfolding number_in
number_long most w h = rw (lt-ltb 0 (length w) (omega arith), lt-leb (length w) most h)

pub number_judged : (most : ℕ) (w : List ℕ) → 0 < length w → length w ≤ most → number_in most w ≡ judged 0 w
unfolding number_in judged
number_judged most w h k = rw (lt-ltb 0 (length w) h, le-leb (length w) most k)

-- the byte at i is the next
module _ (w : List ℕ) (i : ℕ) (h : i < length w) (v : ℕ) where
  next : judged v (drop i w) ≡ judged v (get_or w i 0 ∷ drop (i + 1) w)
  next = rw (drop-cons w i 0 h, add-one i)

  pub judged_digit : 48 ≤ get_or w i 0 → get_or w i 0 ≤ 57 → judged v (drop i w) ≡ judged (v * 10 + (get_or w i 0 - 48)) (drop (i + 1) w)
  unfolding judged all_digits is_digit value_after
  judged_digit a b = next ∙ rw (in_range_is 48 57 (get_or w i 0) a b)

  pub judged_low : get_or w i 0 < 48 → judged v (drop i w) ≡ None
  unfolding judged all_digits is_digit
  judged_low a = next ∙ rw (under 48 57 (get_or w i 0) a)

  pub judged_high : 57 < get_or w i 0 → judged v (drop i w) ≡ None
  unfolding judged all_digits is_digit
  judged_high a = next ∙ rw (over 48 57 (get_or w i 0) (omega arith) a)

grows : (v : ℕ) (w : List ℕ) → v ≤ value_after v w
unfolding value_after
grows v [] = omega arith
grows v (b ∷ w) = omega (arith, grows (v * 10 + (b - 48)) w)

pub judged_big : (v : ℕ) (w : List ℕ) → 4294967296 ≤ v → judged v w ≡ None
unfolding judged
judged_big v w h = rw (le-ltb (value_after v w) (2 ^ 32) (omega (arith, grows v w)), and-false (all_digits w))

pub judged_end : (w : List ℕ) (i v : ℕ) → length w ≤ i → v < 4294967296 → judged v (drop i w) ≡ Some v
unfolding judged all_digits value_after
judged_end w i v e h = rw (drop_of_length-le w e, lt-ltb v (2 ^ 32) h)

-- ---- what the word says, x, from its length and from what is still to be read
pub says_outside : (most : ℕ) (w : List ℕ) → (length w ≡ 0) ⊎ (most < length w) → None ≡ number_in most w
says_outside most w (inl h) = sym (number_none most w h)
says_outside most w (inr h) = sym (number_long most w h)

module _ (w : List ℕ) (i v : ℕ) {x : Option ℕ} (e : judged v (drop i w) ≡ x) where
  pub says_end : length w ≤ i → v < 4294967296 → Some v ≡ x
  says_end h k = sym (judged_end w i v h k) ∙ e

  module _ (h : i < length w) where
    pub says_other : (get_or w i 0 < 48) ⊎ (57 < get_or w i 0) → None ≡ x
    says_other (inl a) = sym (judged_low w i h v a) ∙ e
    says_other (inr a) = sym (judged_high w i h v a) ∙ e

    module _ (d : (48 ≤ get_or w i 0) × (get_or w i 0 ≤ 57)) where
      pub says_more : judged (v * 10 + (get_or w i 0 - 48)) (drop (i + 1) w) ≡ x
      says_more = sym (judged_digit w i h v d.0 d.1) ∙ e

      pub says_big : 4294967296 ≤ v * 10 + (get_or w i 0 - 48) → None ≡ x
      says_big k = sym (judged_big _ (drop (i + 1) w) k) ∙ says_more

-- ---- a word with a sign or a base before its digits
same_is : (s t : List ℕ) → pointwise nat_eq s t ≡ same_as s t
unfolding same_as
same_is [] [] = refl
same_is [] (b ∷ t) = refl
same_is (a ∷ s) [] = refl
same_is (a ∷ s) (b ∷ t) = ap (λ (v : Bool). nat_eq a b && v) (same_is s t)

pub same_told : (s t : List ℕ) {v : Bool} → pointwise nat_eq s t ≡ v → same_as s t ≡ v
same_told s t e = sym (same_is s t) ∙ e
