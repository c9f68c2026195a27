-- The quotient by the generator, coefficient by coefficient.
use mathlib.Core.Path.{◌≡◌, ap, ◌∙◌, subst}
use Prim.Native.Nat.{ℕ, suc, ◌+◌, ◌-◌, ◌*◌, ◌/◌, ◌^◌, ◌<◌}
use native.Mathlib.Nat.{lt_of_lt_of_le, pow-suc}
use native.Mathlib.Numerals.{add-one}
use native.Mathlib.Omega.{arith}
use lib.Bits.{bit_xor}
use lib.Pow.{pow_mono}
use Rattle.lists.specs.Lists.{spelled}
use Rattle.parity_rules.specs.Division.{generator, shift_in}
use Rattle.parity_rules.proofs.Linear.{reduce_is, shift_lt}
use Rattle.frames_rules.specs.Addresses.{quotient_bits}

-- one step of the division, as the code takes it
pub step_is : (r : ℕ) → r < 16777216 → shift_in r 0 ≡ bit_xor (r * 2) (r / 8388608 * generator)
unfolding shift_in
step_is r h =
    let e : r * 2 + 0 ≡ r * 2 = omega arith in
    let d : r * 2 / 16777216 ≡ r / 8388608 = omega arith in
    rw e (reduce_is (r * 2) (omega arith) ∙ ap (λ (x : ℕ). bit_xor (r * 2) (x * generator)) d)

pub step_lt : (r : ℕ) → r < 16777216 → bit_xor (r * 2) (r / 8388608 * generator) < 16777216
step_lt r h = subst (λ (x : ℕ). x < 16777216) (step_is r h) (shift_lt r 0 h (omega arith))

-- one turn of the loop
pub quotient_turn : (q r i : ℕ) → i < 24 → r < 16777216
    → spelled (q * 2 + r / 8388608) (quotient_bits (24 - (i + 1)) (bit_xor (r * 2) (r / 8388608 * generator))) ≡ spelled q (quotient_bits (24 - i) r)
unfolding quotient_bits
quotient_turn q r i h hr =
    let e : 24 - i ≡ suc (24 - (i + 1)) = omega arith in
    rw (e, step_is r hr)

pub quotient_grows : (q b i : ℕ) → q < 2 ^ i → b < 2 → q * 2 + b < 2 ^ (i + 1)
quotient_grows q b i hq hb = rw (add-one i) (omega (arith, pow-suc 2 i))

pub quotient_fits : (q i : ℕ) → i < 24 → q < 2 ^ i → q < 16777216
quotient_fits q i h hq = lt_of_lt_of_le hq (pow_mono {i = i} {j = 24} (omega arith))
