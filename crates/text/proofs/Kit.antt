-- Decimal and hex digits as the kit's `io::decimal` and `io::hex` make them.
use Prim.Native.Nat.{ℕ, zero, suc, ◌+◌, ◌-◌, ◌*◌, ◌/◌, ◌%◌, ◌^◌, ◌≤◌, ◌<◌, min, max}
use native.Mathlib.Nat.{pow-suc, one-le-pow, pow-le-pow_right}
use native.Mathlib.Omega.{arith}
use mathlib.Core.Path.{◌≡◌, refl, ap, ◌∙◌}
use mathlib.Core.Bool.{Bool, true, false}
use mathlib.Core.List.{List, [], ◌∷◌, map, map-append}
use lib.ListN.{take}
use lib.Dec.{ltb}
use borrow.Author.Tests.{lt-ltb, le-ltb, ltb-true, ltb-false}
use Rattle.io.specs.Digits.{hex_digit_ascii, last_digits, IsDigitCount}
use Rattle.text_rules.specs.Put.{decimal}
use Rattle.text_rules.specs.Hex.{hex_digit, hex_in, upper_of}
use Rattle.text_rules.proofs.Decimal.{decimal_small, decimal_more}

-- ---- decimal

digit : (n : ℕ) → hex_digit_ascii (n % 10) ≡ 48 + n % 10
digit n = rw (lt-ltb (n % 10) 10 (omega arith))

pub decimal_of_kit : (k n : ℕ) → IsDigitCount 10 1 n k → last_digits 10 k n ≡ decimal n
decimal_of_kit zero n (a, b, c) = absurd (omega arith)
decimal_of_kit (suc zero) n (a, b, c) = rw (decimal_small n (omega arith), digit n)
decimal_of_kit (suc (suc k)) n (a, b, c) =
    let p : 10 ^ suc (suc k) ≡ 10 ^ suc k * 10 = pow-suc 10 (suc k) in
    let q : 10 ^ suc k ≡ 10 ^ k * 10 = pow-suc 10 k in
    let o : 1 ≤ 10 ^ k = one-le-pow k 10 (omega arith) in
    let e : suc (suc k) - 1 ≡ suc k = omega arith in
    let f : suc k - 1 ≡ k = omega arith in
    let least : 10 ^ suc k ≤ n = rw e at (c (omega arith)) in
    rw (decimal_more n (omega arith), digit n, decimal_of_kit (suc k) (n / 10) (omega arith, omega arith, λ h. rw f (omega arith)))

-- ---- hex, its letters in upper case

raise_by : (d : ℕ) (v : Bool) → ltb d 10 ≡ v → upper_of (hex_digit_ascii d) ≡ hex_digit d
unfolding upper_of hex_digit
raise_by d true e = rw (e, lt-ltb (48 + d) 97 (omega (arith, ltb-true d 10 e)))
raise_by d false e = rw (e, le-ltb (87 + d) 97 (omega (arith, ltb-false d 10 e))) (omega arith)

raised : (k n : ℕ) → map upper_of (last_digits 16 k n) ≡ hex_in k n
unfolding hex_in
raised zero n = refl
raised (suc k) n =
    map-append upper_of (last_digits 16 k (n / 16)) (hex_digit_ascii (n % 16) ∷ [])
    ∙ rw (raised k (n / 16), raise_by (n % 16) (ltb (n % 16) 10) refl)

width_by : (w n k : ℕ) (v : Bool) → ltb w k ≡ v → n < 16 ^ w → w ≤ k → (w < k → 16 ^ (k - 1) ≤ n) → k ≡ w
width_by w n k true e a b c =
    let h : w < k = ltb-true w k e in
    let p : 16 ^ w ≤ 16 ^ (k - 1) = pow-le-pow_right (omega arith) (omega arith) in
    absurd (omega (arith, c h))
width_by w n k false e a b c = omega (arith, ltb-false w k e)

pub hex_of_kit : (w n k : ℕ) (t : List ℕ) → (n < 16 ^ w) × (1 ≤ w) × (w ≤ 16) → IsDigitCount 16 (min (max w 1) 16) n k → take k t ≡ last_digits 16 k n
    → map upper_of (take k t) ≡ hex_in w n
hex_of_kit w n k t (a, b, c) f e =
    let m : min (max w 1) 16 ≡ w = omega arith in
    let g : IsDigitCount 16 w n k = rw m at f in
    let i : k ≡ w = width_by w n k (ltb w k) refl a g.0 g.2 in
    ap (map upper_of) e ∙ raised k n ∙ ap (λ (j : ℕ). hex_in j n) i
