-- The places where two lists of bits differ: none exactly if they are one, no more than the marks that both lie within, and their XOR.
use mathlib.Core.Path.{◌≡◌, refl, sym, ap, ap₂, ◌∙◌}
use mathlib.Core.List.{List, [], ◌∷◌}
use Prim.Native.Nat.{ℕ, suc, ◌*◌, ◌<◌, ◌≤◌}
use native.Mathlib.Omega.{arith}
use lib.Bits.{bit_xor, xor_self}
use lib.ListN.{length}
use Rattle.lists.specs.Lists.{All}
use Rattle.lists.proofs.Xor.{bit_ind}
use Rattle.parity_rules.specs.Messages.{bits, xor_bits, differing, AreBits, AreBytes}
use Rattle.parity_rules.specs.Division.{remainder_of}
use Rattle.parity_rules.specs.Correction.{size_of, xor_of, flipped}
use Rattle.parity_rules.specs.Corrected.{AtMarks}
use Rattle.parity_rules.proofs.Bits.{bits_length, bits_are}
use Rattle.parity_rules.proofs.Sum.{sum_is, sum_xor}
use Rattle.parity_rules.proofs.Flipped.{flipped_back}

-- ---- two lists of bits that differ at no place are one
bit_same : (a : ℕ) → a < 2 → (b : ℕ) → b < 2 → bit_xor a b ≡ 0 → a ≡ b
bit_same =
    bit_ind (λ a. (b : ℕ) → b < 2 → bit_xor a b ≡ 0 → a ≡ b) (λ b h e. sym e)
    (bit_ind (λ b. bit_xor 1 b ≡ 0 → 1 ≡ b) (λ e. absurd (omega arith)) (λ e. refl))

pub same_bits : (s t : List ℕ) → AreBits s → AreBits t → length s ≡ length t → size_of (xor_bits s t) ≡ 0 → s ≡ t
unfolding All size_of xor_bits
same_bits [] [] hs ht l w = refl
same_bits [] (b ∷ t) hs ht l w = absurd (omega arith)
same_bits (a ∷ s) [] hs ht l w = absurd (omega arith)
same_bits (a ∷ s) (b ∷ t) hs ht l w =
    ap₂ (λ (x : ℕ) (u : List ℕ). x ∷ u) (bit_same a hs.0 b ht.0 (omega arith)) (same_bits s t hs.1 ht.1 (omega arith) (omega arith))

pub differing_length : (s t : List ℕ) → length s ≡ length t → length (xor_bits s t) ≡ length s
unfolding xor_bits
differing_length [] t e = refl
differing_length (x ∷ s) [] e = absurd (omega arith)
differing_length (x ∷ s) (y ∷ t) e = ap suc (differing_length s t (omega arith))

-- ---- two subsets of the marks differ at marks alone
bit_le : (a : ℕ) → a < 2 → (b : ℕ) → b < 2 → (m : ℕ) → a ≤ m → b ≤ m → bit_xor a b ≤ m
bit_le =
    bit_ind (λ a. (b : ℕ) → b < 2 → (m : ℕ) → a ≤ m → b ≤ m → bit_xor a b ≤ m) (λ b h m x y. y)
    (bit_ind (λ b. (m : ℕ) → 1 ≤ m → b ≤ m → bit_xor 1 b ≤ m) (λ m x y. omega arith) (λ m x y. omega arith))

pub differing_most : (s t ms : List ℕ) → AreBits s → AreBits t → AtMarks s ms → AtMarks t ms → size_of (xor_bits s t) ≤ size_of ms
unfolding All size_of xor_bits
differing_most [] t ms bs bt hs ht = omega arith
differing_most (a ∷ s) t [] bs bt hs ht = absurd hs
differing_most (a ∷ s) [] (m ∷ ms) bs bt hs ht = absurd ht
differing_most (a ∷ s) (b ∷ t) (m ∷ ms) bs bt hs ht =
    omega (arith, bit_le a bs.0 b bt.0 m hs.0 ht.0, differing_most s t ms bs.1 bt.1 hs.1 ht.1)

-- where two have the same XOR, that of the places where they differ is zero
pub differing_none : (s t : List ℕ) → AreBits s → AreBits t → length s ≡ length t → xor_of s ≡ xor_of t → xor_of (xor_bits s t) ≡ 0
differing_none s t hs ht l e = sum_xor s t hs ht l ∙ ap (λ (x : ℕ). bit_xor x (xor_of t)) e ∙ xor_self (xor_of t)

-- ---- two messages
module _ (m o : List ℕ) (same : length o ≡ length m) where
  pub bits_alike : length (bits m) ≡ length (bits o)
  bits_alike = bits_length m ∙ ap (λ (x : ℕ). x * 8) (sym same) ∙ sym (bits_length o)

  -- of one overlay: the XOR of the places where they differ is zero
  pub overlay_none : remainder_of (bits m) ≡ remainder_of (bits o) → xor_of (differing m o) ≡ 0
  overlay_none e =
      differing_none (bits m) (bits o) (bits_are m) (bits_are o) bits_alike (sum_is (bits m) (bits_are m) ∙ e ∙ sym (sum_is (bits o) (bits_are o)))

  -- that differ at no place are one
  pub same_message : AreBytes m → AreBytes o → size_of (differing m o) ≡ 0 → m ≡ o
  same_message hm ho z =
      sym (flipped_back m m hm hm refl)
      ∙ ap (λ (t : List ℕ). flipped m (xor_bits (bits m) t)) (same_bits (bits m) (bits o) (bits_are m) (bits_are o) bits_alike z)
      ∙ flipped_back m o hm ho same
