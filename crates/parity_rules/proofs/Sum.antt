-- The XOR of the syndromes of a subset's places is the remainder of the subset as a polynomial, so it is linear.
use mathlib.Core.Path.{◌≡◌, refl, sym, ap, ap₂, ◌∙◌, subst}
use mathlib.Core.List.{List, [], ◌∷◌}
use Prim.Native.Nat.{ℕ, zero, suc, ◌<◌}
use native.Mathlib.Omega.{arith}
use lib.Bits.{bit_xor, xor_lt}
use lib.ListN.{length, replicate, length-replicate}
use Rattle.parity_rules.specs.Division.{shift_in, divide, remainder_of, syndrome}
use Rattle.parity_rules.specs.Messages.{xor_bits, AreBits}
use Rattle.parity_rules.specs.Correction.{size_of, xor_of}
use Rattle.parity_rules.proofs.Linear.{divide_lt, divide_xor}
use Rattle.lists.specs.Lists.{All}
use Rattle.lists.proofs.Held.{all_same}

pub zeros_are : (n : ℕ) → AreBits (replicate n 0)
zeros_are n = all_same _ n 0 (omega arith)

pub size_zeros : (n : ℕ) → size_of (replicate n 0) ≡ 0
unfolding size_of
size_zeros zero = refl
size_zeros (suc n) = omega (arith, size_zeros n)

pub xor_zeros : (s : List ℕ) → xor_bits (replicate (length s) 0) s ≡ s
unfolding xor_bits
xor_zeros [] = refl
xor_zeros (x ∷ s) = ap (λ (l : List ℕ). x ∷ l) (xor_zeros s)

-- a one in front adds its syndrome
front : (s : List ℕ) → AreBits s → bit_xor (syndrome (length s)) (remainder_of s) ≡ remainder_of (1 ∷ s)
unfolding syndrome remainder_of divide shift_in
front s h =
    sym (divide_xor (replicate (length s) 0) s (zeros_are (length s)) h (length-replicate (length s) 0) 1 0 (omega arith) (omega arith))
    ∙ ap (divide 1) (xor_zeros s)

pub sum_is : (s : List ℕ) → AreBits s → xor_of s ≡ remainder_of s
unfolding All xor_of remainder_of divide shift_in
sum_is [] h = refl
sum_is (zero ∷ s) h = sum_is s h.1
sum_is (suc zero ∷ s) h = ap (bit_xor (syndrome (length s))) (sum_is s h.1) ∙ front s h.1
sum_is (suc (suc b) ∷ s) h = absurd (omega (arith, h.0))

-- it has 24 bits
pub sum_lt : (s : List ℕ) → AreBits s → xor_of s < 16777216
unfolding remainder_of
sum_lt s h = subst (λ (x : ℕ). x < 16777216) (sym (sum_is s h)) (divide_lt s h 0 (omega arith))

pub xor_are : (s t : List ℕ) → AreBits s → AreBits t → AreBits (xor_bits s t)
unfolding All xor_bits
xor_are [] t hs ht = tt
xor_are (x ∷ s) [] hs ht = tt
xor_are (x ∷ s) (y ∷ t) hs ht = (xor_lt 1 x y hs.0 ht.0, xor_are s t hs.1 ht.1)

pub sum_xor : (s t : List ℕ) → AreBits s → AreBits t → length s ≡ length t → xor_of (xor_bits s t) ≡ bit_xor (xor_of s) (xor_of t)
unfolding remainder_of
sum_xor s t hs ht e =
    sum_is (xor_bits s t) (xor_are s t hs ht) ∙ divide_xor s t hs ht e 0 0 (omega arith) (omega arith)
    ∙ sym (ap₂ bit_xor (sum_is s hs) (sum_is t ht))
