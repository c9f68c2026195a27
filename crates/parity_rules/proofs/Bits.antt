-- The bits of a message, place by place.
use mathlib.Core.Path.{◌≡◌, refl, ap}
use mathlib.Core.List.{List, [], ◌∷◌, ◌++◌}
use Prim.Native.Nat.{ℕ, zero, suc, ◌-◌, ◌*◌, ◌/◌, ◌%◌, ◌^◌, ◌<◌}
use native.Mathlib.Omega.{arith}
use lib.ListN.{length, get_or}
use Rattle.parity_rules.specs.Messages.{bits, byte_then, AreBits, AreBytes}
use Rattle.lists.specs.Lists.{All}

pub bits_length : (s : List ℕ) → length (bits s) ≡ length s * 8
unfolding bits
bits_length [] = refl
bits_length (b ∷ s) = omega (arith, bits_length s)

pub bits_are : (s : List ℕ) → AreBits (bits s)
unfolding All bits
bits_are [] = tt
bits_are (b ∷ s) = (omega arith, (omega arith, (omega arith, (omega arith, (omega arith, (omega arith, (omega arith, (omega arith, bits_are s))))))))

pub are_at : (s : List ℕ) → AreBits s → (i : ℕ) → get_or s i 0 < 2
unfolding All
are_at [] h i = omega arith
are_at (x ∷ s) h zero = h.0
are_at (x ∷ s) h (suc i) = are_at s h.1 i

-- the bit at a place is a digit of the byte there
pub bit_at : (s : List ℕ) (i : ℕ) → i < length s * 8 → get_or s (i / 8) 0 / 2 ^ (7 - i % 8) % 2 ≡ get_or (bits s) i 0
unfolding bits
bit_at [] i h = absurd (omega arith)
bit_at (b ∷ s) zero h = refl
bit_at (b ∷ s) (suc zero) h = refl
bit_at (b ∷ s) (suc (suc zero)) h = refl
bit_at (b ∷ s) (suc (suc (suc zero))) h = refl
bit_at (b ∷ s) (suc (suc (suc (suc zero)))) h = refl
bit_at (b ∷ s) (suc (suc (suc (suc (suc zero))))) h = refl
bit_at (b ∷ s) (suc (suc (suc (suc (suc (suc zero)))))) h = refl
bit_at (b ∷ s) (suc (suc (suc (suc (suc (suc (suc zero))))))) h = omega arith
bit_at (b ∷ s) (suc (suc (suc (suc (suc (suc (suc (suc i)))))))) h =
    let q : suc (suc (suc (suc (suc (suc (suc (suc i))))))) / 8 ≡ suc (i / 8) = omega arith in
    let m : suc (suc (suc (suc (suc (suc (suc (suc i))))))) % 8 ≡ i % 8 = omega arith in
    rw (q, m) (bit_at s i (omega arith))

pub bits_append : (s t : List ℕ) → bits (s ++ t) ≡ bits s ++ bits t
unfolding bits
bits_append [] t = refl
bits_append (b ∷ s) t = ap (byte_then b) (bits_append s t)

-- ---- a list whose every place holds a byte
pub bytes_by_place : (s : List ℕ) → ((i : ℕ) → i < length s → get_or s i 0 < 256) → AreBytes s
unfolding All
bytes_by_place [] h = tt
bytes_by_place (b ∷ s) h = (h 0 (omega arith), bytes_by_place s (λ i l. h (suc i) (omega arith)))
