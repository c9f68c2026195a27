-- Laws of bytes read from hex: which words say bytes, and what a caller knows of the answer.
use Rattle.std.specs.Prelude.{Option, Some, None, option_map}
use Prim.Native.Nat.{ℕ, ◌/◌, ◌%◌, ◌≤◌, ◌<◌}
use native.Mathlib.Omega.{arith}
use mathlib.Core.Path.{◌≡◌, refl, sym, ap, ◌∙◌}
use mathlib.Core.Bool.{Bool, true, false, false≢true}
use mathlib.Core.List.{List, [], ◌∷◌}
use lib.ListN.{length, take}
use lib.Dec.{ltb}
use borrow.Author.Tests.{lt-ltb, le-ltb, le-leb, lt-leb, eq-eqb, ne_eqb, ltb-true, ltb-false}
use Rattle.text_rules.specs.Put.{laid}
use Rattle.text_rules.specs.Line.{same_as}
use Rattle.text_rules.specs.Hex.{all_hex, pairs, is_hex, bytes_in, filled, HexRead}
use Rattle.text_rules.proofs.Laid.{take_laid, length_laid}

length_pairs : (w : List ℕ) → length (pairs w) ≡ length w / 2
unfolding pairs
length_pairs [] = refl
length_pairs (a ∷ []) = refl
length_pairs (a ∷ b ∷ w) = omega (arith, length_pairs w)

-- ---- the word as a whole

module _ (w : List ℕ) where
  pub hex_empty : length w ≡ 0 → is_hex w ≡ false
  unfolding is_hex
  hex_empty h = rw (le-ltb 0 (length w) (omega arith))

  pub hex_long : 64 < length w → is_hex w ≡ false
  unfolding is_hex
  hex_long h = rw (lt-ltb 0 (length w) (omega arith), lt-leb (length w) 64 h)

  module _ (a : (length w ≡ 0) → ⊥) (b : length w ≤ 64) where
    pub hex_odd : (length w % 2 ≡ 0 → ⊥) → is_hex w ≡ false
    unfolding is_hex
    hex_odd h = rw (lt-ltb 0 (length w) (omega arith), le-leb (length w) 64 b, ne_eqb (length w % 2) 0 h)

    pub hex_even : {v : Bool} → length w % 2 ≡ 0 → all_hex w ≡ v → is_hex w ≡ v
    unfolding is_hex
    hex_even h e = rw (lt-ltb 0 (length w) (omega arith), le-leb (length w) 64 b, eq-eqb (length w % 2) 0 h) e

  module _ (l : List ℕ) where
    pub read_dash : same_as w (45 ∷ []) ≡ true → HexRead w l l (Some 0)
    unfolding bytes_in filled laid
    read_dash d = record { answer = rw d; buffer = rw d }

    pub read_not : same_as w (45 ∷ []) ≡ false → is_hex w ≡ false → HexRead w l l None
    unfolding bytes_in filled
    read_not d h = record { answer = rw (d, h); buffer = rw (d, h) }

    pub read_bytes : {m : List ℕ} → same_as w (45 ∷ []) ≡ false → is_hex w ≡ true → m ≡ laid (pairs w) 0 l → HexRead w l m (Some (length w / 2))
    unfolding bytes_in filled
    read_bytes d h e = record { answer = rw (d, h, length_pairs w); buffer = rw (d, h) e }

-- ---- what a caller knows of the answer

short_by : (w : List ℕ) (v : Bool) → ltb 64 (length w) ≡ v → is_hex w ≡ true → length w ≤ 64
short_by w true e h = absurd (false≢true (sym (hex_long w (ltb-true 64 (length w) e)) ∙ h))
short_by w false e h = ltb-false 64 (length w) e

bytes_by : (w bs : List ℕ) (d v : Bool) → same_as w (45 ∷ []) ≡ d → is_hex w ≡ v → bytes_in w ≡ Some bs → length bs ≤ 32
unfolding bytes_in
bytes_by w bs true v e f h =
    let g : Some [] ≡ Some bs = rw e at h in
    let z : [] ≡ bs = cc in
    rw (← z) (omega arith)
bytes_by w bs false true e f h =
    let g : Some (pairs w) ≡ Some bs = rw (e, f) at h in
    let z : pairs w ≡ bs = cc in
    rw (← z) (omega (arith, length_pairs w, short_by w (ltb 64 (length w)) refl f))
bytes_by w bs false false e f h =
    let g : None ≡ Some bs = rw (e, f) at h in
    let z : ◌≡◌ {A = ℕ} 0 1 = cc in
    absurd (omega arith)

-- a word says at most 32 bytes
pub bytes_fit : (w bs : List ℕ) → bytes_in w ≡ Some bs → length bs ≤ 32
bytes_fit w bs h = bytes_by w bs (same_as w (45 ∷ [])) (is_hex w) refl refl h

filled_same : (o : Option (List ℕ)) (l : List ℕ) → length (filled o l) ≡ length l
unfolding filled
filled_same (Some bs) l = length_laid bs 0 l
filled_same None l = refl

module _ {w l m : List ℕ} where
  -- the buffer keeps its length
  pub hex_same : {r : Option ℕ} → HexRead w l m r → length m ≡ length l
  hex_same h = ap length h.buffer ∙ filled_same (bytes_in w) l

  found_by_is : (o : Option (List ℕ)) (n : ℕ) → bytes_in w ≡ o → length l ≡ 32 → HexRead w l m (Some n) → (bytes_in w ≡ Some (take n m)) × (n ≤ 32)
  unfolding filled
  found_by_is (Some bs) n e k h =
      let a : Some n ≡ Some (length bs) = h.answer ∙ ap (option_map length) e in
      let z : n ≡ length bs = cc in
      let t : take (length bs) m ≡ bs = rw (h.buffer, e) (take_laid bs l (omega (arith, bytes_fit w bs e))) in
      (rw (z, t) e, omega (arith, bytes_fit w bs e))
  found_by_is None n e k h =
      let a : Some n ≡ None = h.answer ∙ ap (option_map length) e in
      let z : ◌≡◌ {A = ℕ} 0 1 = cc in
      absurd (omega arith)

  -- a number of bytes: they stand at the buffer's front
  pub hex_found : {n : ℕ} → length l ≡ 32 → HexRead w l m (Some n) → (bytes_in w ≡ Some (take n m)) × (n ≤ 32)
  hex_found k h = found_by_is (bytes_in w) _ refl k h

  not_by : (o : Option (List ℕ)) → bytes_in w ≡ o → HexRead w l m None → (bytes_in w ≡ None) × (m ≡ l)
  unfolding filled
  not_by (Some bs) e h =
      let a : None ≡ Some (length bs) = h.answer ∙ ap (option_map length) e in
      let z : ◌≡◌ {A = ℕ} 0 1 = cc in
      absurd (omega arith)
  not_by None e h = (e, h.buffer ∙ rw e)

  -- no bytes: the buffer is as it was
  pub hex_not : HexRead w l m None → (bytes_in w ≡ None) × (m ≡ l)
  hex_not h = not_by (bytes_in w) refl h
