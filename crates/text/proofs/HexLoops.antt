-- Laws of loops over hex digits: what is still to be read, digit by digit.
use Prim.Native.Nat.{ℕ, ◌+◌, ◌*◌, ◌≤◌, ◌<◌}
use native.Mathlib.Numerals.{add-one}
use native.Mathlib.Omega.{arith}
use mathlib.Core.Path.{◌≡◌, refl, sym, ◌∙◌}
use mathlib.Core.Bool.{Bool, true, false, false≢true}
use mathlib.Core.List.{List, ◌∷◌}
use lib.Seq.{drop-cons}
use lib.ListN.{length, get_or, set, drop, drop_of_length-le}
use lib.Dec.{ltb}
use borrow.Author.Tests.{lt-ltb, le-ltb, ltb-true, ltb-false}
use Rattle.text_rules.specs.Put.{laid}
use Rattle.text_rules.specs.Hex.{hex_value, all_hex, pairs}

module _ (w : List ℕ) (i : ℕ) where
  next : i < length w → drop i w ≡ get_or w i 0 ∷ drop (i + 1) w
  next h = rw (drop-cons w i 0 h, add-one i)

  pub hex_passed : i < length w → hex_value (get_or w i 0) < 16 → all_hex (drop i w) ≡ all_hex (drop (i + 1) w)
  unfolding all_hex
  hex_passed h v = rw (next h, lt-ltb (hex_value (get_or w i 0)) 16 v)

  pub hex_stopped : i < length w → 16 ≤ hex_value (get_or w i 0) → all_hex (drop i w) ≡ false
  unfolding all_hex
  hex_stopped h v = rw (next h, le-ltb (hex_value (get_or w i 0)) 16 v)

  value_by : (v : Bool) → ltb (hex_value (get_or w i 0)) 16 ≡ v → i < length w → all_hex (drop i w) ≡ true → hex_value (get_or w i 0) < 16
  value_by true e h a = ltb-true _ _ e
  value_by false e h a = absurd (false≢true (sym (hex_stopped h (ltb-false _ _ e)) ∙ a))

  pub value_small : i < length w → all_hex (drop i w) ≡ true → hex_value (get_or w i 0) < 16
  value_small h a = value_by (ltb (hex_value (get_or w i 0)) 16) refl h a

-- two digits more
pub pair_passed : (w : List ℕ) (i : ℕ) → 2 * i + 1 < length w → all_hex (drop (2 * i) w) ≡ true
    → (hex_value (get_or w (2 * i) 0) < 16) × (hex_value (get_or w (2 * i + 1) 0) < 16) × (all_hex (drop (2 * (i + 1)) w) ≡ true)
pair_passed w i h a =
    let e : 2 * (i + 1) ≡ 2 * i + 1 + 1 = omega arith in
    let x = value_small w (2 * i) (omega arith) a in
    let b = sym (hex_passed w (2 * i) (omega arith) x) ∙ a in
    let y = value_small w (2 * i + 1) h b in
    (x, y, rw e (sym (hex_passed w (2 * i + 1) h y) ∙ b))

-- the word has 2n digits
module _ (w : List ℕ) (i : ℕ) {n : ℕ} (a : all_hex (drop (2 * i) w) ≡ true) (k : length w ≡ 2 * n) (h : i < n) where
  pub high_small : {v : ℕ} → v ≡ hex_value (get_or w (2 * i) 0) → v < 16
  high_small e = omega (arith, (pair_passed w i (omega arith) a).0)

  pub low_small : {v : ℕ} → v ≡ hex_value (get_or w (2 * i + 1) 0) → v < 16
  low_small e = omega (arith, (pair_passed w i (omega arith) a).1)

  pub pairs_on : all_hex (drop (2 * (i + 1)) w) ≡ true
  pairs_on = (pair_passed w i (omega arith) a).2

-- a byte more is laid: that of the digits at 2i and 2i + 1
pub pair_next : (w : List ℕ) (i : ℕ) (l : List ℕ) → 2 * i + 1 < length w
    → laid (pairs (drop (2 * (i + 1)) w)) (i + 1) (set l i (hex_value (get_or w (2 * i) 0) * 16 + hex_value (get_or w (2 * i + 1) 0)))
    ≡ laid (pairs (drop (2 * i) w)) i l
unfolding laid pairs
pair_next w i l h =
    let e : 2 * (i + 1) ≡ 2 * i + 1 + 1 = omega arith in
    rw (e, next w (2 * i) (omega arith), next w (2 * i + 1) h, add-one i)

pub pair_end : (w : List ℕ) (i : ℕ) (l : List ℕ) → length w ≤ 2 * i → laid (pairs (drop (2 * i) w)) i l ≡ l
unfolding laid pairs
pair_end w i l h = rw (drop_of_length-le w h)

-- what is laid in the end, x, from what is still to be laid
module _ (w l : List ℕ) (i : ℕ) {n : ℕ} {x : List ℕ} (e : laid (pairs (drop (2 * i) w)) i l ≡ x) (k : length w ≡ 2 * n) where
  pub pairs_more : {a b : ℕ} → i < n → a ≡ hex_value (get_or w (2 * i) 0) → b ≡ hex_value (get_or w (2 * i + 1) 0)
      → laid (pairs (drop (2 * (i + 1)) w)) (i + 1) (set l i (a * 16 + b)) ≡ x
  pairs_more h f g = rw (f, g) (pair_next w i l (omega arith)) ∙ e

  pub pairs_end : n ≤ i → l ≡ x
  pairs_end h = sym (pair_end w i l (omega arith)) ∙ e
