-- Laws of a word read as a number in hex, for a loop that has come to a place of it.
use Rattle.std.specs.Prelude.{Some, None}
use Prim.Native.Nat.{ℕ, suc, ◌+◌, ◌*◌, ◌^◌, ◌≤◌, ◌<◌}
use native.Mathlib.Numerals.{add-one}
use native.Mathlib.Omega.{arith}
use native.Mathlib.Nat.{pow-suc, pow-le-pow_right, zero-lt-suc}
use mathlib.Core.Path.{◌≡◌, refl, sym, ap, ◌∙◌}
use mathlib.Core.Bool.{true, false}
use mathlib.Core.Logic.{◌⊎◌, inl, inr}
use mathlib.Core.List.{List, ◌∷◌}
use lib.Seq.{drop-cons}
use lib.ListN.{length, get_or, drop, drop_of_length-le}
use borrow.Author.Tests.{lt-ltb, le-ltb, le-leb, lt-leb}
use Rattle.text_rules.specs.Hex.{hex_value, all_hex}
use Rattle.text_rules.specs.Bases.{hex_after, hex_number}
use Rattle.text.proofs.HexLoops.{value_small, hex_passed}

-- ---- what digits say that are too few or too many, or not all hex
module _ (w : List ℕ) where
  pub hex_outside : (length w ≡ 0) ⊎ (8 < length w) → None ≡ hex_number w
  unfolding hex_number
  hex_outside (inl h) = rw (le-ltb 0 (length w) (omega arith))
  hex_outside (inr h) = rw (lt-ltb 0 (length w) (omega arith), lt-leb (length w) 8 h)

  module _ (a : (length w ≡ 0) → ⊥) (b : length w ≤ 8) where
    pub hex_other : all_hex w ≡ false → None ≡ hex_number w
    unfolding hex_number
    hex_other h = rw (lt-ltb 0 (length w) (omega arith), le-leb (length w) 8 b, h)

    hex_says : all_hex w ≡ true → hex_number w ≡ Some (hex_after 0 w)
    unfolding hex_number
    hex_says h = rw (lt-ltb 0 (length w) (omega arith), le-leb (length w) 8 b, h)

-- i digits are read and have said v; those behind them say the rest
pub record Came (w : List ℕ) (i v : ℕ) : Type 0 where
  pub says : hex_after v (drop i w) ≡ hex_after 0 w
  pub small : v < 16 ^ i
  pub rest : all_hex (drop i w) ≡ true
  pub all : all_hex w ≡ true

pub begins : (w : List ℕ) → all_hex w ≡ true → Came w 0 0
begins w a = record { says = refl; small = omega arith; rest = a; all = a }

module _ {w : List ℕ} {i v : ℕ} (c : Came w i v) where
  pub said : length w ≤ i → (length w ≡ 0 → ⊥) → length w ≤ 8 → Some v ≡ hex_number w
  unfolding hex_after
  said h a b =
      let z : hex_after v (drop i w) ≡ v = rw (drop_of_length-le w h) in
      sym (hex_says w a b c.all ∙ ap Some (sym c.says ∙ z))

  module _ (h : i < length w) where
    digit : hex_value (get_or w i 0) < 16
    digit = value_small w i h c.rest

    on : v * 16 + hex_value (get_or w i 0) < 16 ^ suc i
    on = let p : 16 ^ suc i ≡ 16 ^ i * 16 = pow-suc 16 i in omega (arith, c.small, digit)

    -- eight digits fit 32 bits
    pub fits : {d : ℕ} → length w ≤ 8 → d ≡ hex_value (get_or w i 0) → v * 16 + d < 4294967296
    fits k e =
        let l : suc i ≤ 8 = omega arith in
        let m : 16 ^ suc i ≤ 16 ^ 8 = pow-le-pow_right (zero-lt-suc 15) l in
        omega (arith, on)

    pub times_fits : length w ≤ 8 → v * 16 < 4294967296
    times_fits k = omega (arith, fits k refl)

    pub digit_more : {d : ℕ} → d ≡ hex_value (get_or w i 0) → Came w (i + 1) (v * 16 + d)
    unfolding hex_after
    digit_more e =
        let n : drop i w ≡ get_or w i 0 ∷ drop (i + 1) w = rw (drop-cons w i 0 h, add-one i) in
        rw e
        (record {
          says = sym (ap (hex_after v) n) ∙ c.says;
          small = rw (add-one i) on;
          rest = sym (hex_passed w i h digit) ∙ c.rest;
          all = c.all;
        })
