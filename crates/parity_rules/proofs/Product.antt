-- The product of the generator and an address, bit by bit, and how far it reaches.
use mathlib.Core.Path.{◌≡◌, refl, sym, ap, ◌∙◌}
use Prim.Native.Nat.{ℕ, zero, suc, ◌-◌, ◌*◌, ◌/◌, ◌%◌, ◌^◌, ◌<◌, ◌≤◌}
use native.Mathlib.Nat.{pow-suc, le_trans}
use native.Mathlib.Omega.{arith}
use lib.Pow.{pow_mono}
use lib.Bits.{bit_xor, xor_lt}
use Rattle.parity_rules.specs.Division.{generator}
use Rattle.parity_rules.specs.Overlays.{low_bits, times}

times_step : (p i a : ℕ) → times p (low_bits (suc i) a) ≡ times (bit_xor (p * 2) (a / 2 ^ i % 2 * generator)) (low_bits i a)
unfolding times low_bits
times_step p i a = refl

grow : (p i b : ℕ) → i < 24 → b < 2 → p < 2 ^ (47 - i) → bit_xor (p * 2) (b * generator) < 2 ^ (48 - i)
grow p i b hi hb hp =
    let e : 48 - i ≡ suc (47 - i) = omega arith in
    let g : b * generator < 2 ^ 25 = omega arith in
    xor_lt (48 - i) (p * 2) (b * generator) (rw e (omega (arith, pow-suc 2 (47 - i)))) (le_trans g (pow_mono {i = 25} (omega arith)))

-- one turn of the loop, from i down to i - 1
pub turn : (a p i : ℕ) → 0 < i → i ≤ 24 → p < 2 ^ (48 - i) → times p (low_bits i a) ≡ times 0 (low_bits 24 a)
    → (bit_xor (p * 2) (a / 2 ^ (i - 1) % 2 * generator) < 2 ^ (48 - (i - 1)))
    × (times (bit_xor (p * 2) (a / 2 ^ (i - 1) % 2 * generator)) (low_bits (i - 1) a) ≡ times 0 (low_bits 24 a))
turn a p i h0 h hp e =
    let j : i ≡ suc (i - 1) = omega arith in
    let k : 47 - (i - 1) ≡ 48 - i = omega arith in (
      grow p (i - 1) (a / 2 ^ (i - 1) % 2) (omega arith) (omega arith) (rw k hp),
      sym (times_step p (i - 1) a) ∙ ap (λ (n : ℕ). times p (low_bits n a)) (sym j) ∙ e,
    )

pub product_lt : (i a p : ℕ) → i ≤ 24 → p < 2 ^ (48 - i) → times p (low_bits i a) < 2 ^ 48
unfolding times low_bits
product_lt zero a p h hp = hp
product_lt (suc i) a p h hp =
    let k : 47 - i ≡ 48 - suc i = omega arith in
    product_lt i a (bit_xor (p * 2) (a / 2 ^ i % 2 * generator)) (omega arith) (grow p i (a / 2 ^ i % 2) (omega arith) (omega arith) (rw k hp))
