-- Laws of hex digits that are made: what lies above the low digits changes none of them, and how many there are.
use Prim.Native.Nat.{ℕ, zero, suc, ◌+◌, ◌*◌, ◌/◌, ◌%◌}
use native.Mathlib.Omega.{arith}
use mathlib.Core.Path.{◌≡◌, refl, sym, ap, ◌∙◌}
use mathlib.Core.List.{List, [], ◌∷◌}
use lib.ListN.{length, length-append}
use Rattle.text_rules.specs.Hex.{hex_in, hex_of}

-- ---- the low digits

abbrev scale : ℕ → ℕ → ℕ
scale zero q = q
scale (suc k) q = 16 * scale k q

-- what lies above the k low digits changes none of them
low : (k m q : ℕ) → hex_in k (m + scale k q) ≡ hex_in k m
unfolding hex_in
low zero m q = refl
low (suc k) m q =
    let d : (m + 16 * scale k q) / 16 ≡ m / 16 + scale k q = omega arith in
    let r : (m + 16 * scale k q) % 16 ≡ m % 16 = omega arith in
    rw (d, r, low k (m / 16) q)

pub hex_low : (n : ℕ) → hex_in 6 (n % 16777216) ≡ hex_in 6 n
hex_low n =
    let e : n ≡ n % 16777216 + scale 6 (n / 16777216) = omega arith in
    sym (ap (hex_in 6) e ∙ low 6 (n % 16777216) (n / 16777216))

pub hex_length : (k n : ℕ) → length (hex_in k n) ≡ k
unfolding hex_in
hex_length zero n = refl
hex_length (suc k) n = simp length-append (omega (arith, hex_length k (n / 16)))

pub hex_of_length : (bs : List ℕ) → length (hex_of bs) ≡ length bs * 2
unfolding hex_of
hex_of_length [] = refl
hex_of_length (b ∷ bs) = simp length-append (omega (arith, hex_length 2 b, hex_of_length bs))
