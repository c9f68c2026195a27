-- Overlays: what is laid over the last 24 bits of a message.
use Rattle.std.specs.Prelude.{ℕ, zero, suc, ◌+◌, ◌*◌, ◌/◌, ◌%◌, ◌^◌, ◌<◌, ◌≡◌, ◌&&◌, not, List, [], ◌∷◌, leb, ltb}
use Rattle.std.specs.Int.Bits.{bit_xor}
use Rattle.lists.specs.Checks.{Check, check, checked}
use Rattle.lists.specs.Answers.{Answer, done, refused_by}
use Rattle.parity_rules.specs.Division.{generator}

-- the n low bits of a number, the highest at the front
unfoldable pub low_bits : ℕ → ℕ → List ℕ
low_bits zero a = []
low_bits (suc n) a = a / 2 ^ n % 2 ∷ low_bits n a

-- the generator times a polynomial, coefficient by coefficient, after p
unfoldable pub times : ℕ → List ℕ → ℕ
times p [] = p
times p (b ∷ bs) = times (bit_xor (p * 2) (b * generator)) bs

-- "coefficients x^47 to x^24 of generator times address"
unfoldable pub overlay_of : ℕ → ℕ
overlay_of address = times 0 (low_bits 24 address) / 2 ^ 24

-- the uplink overlay; 2: an address above 24 bits
unfoldable pub uplink_overlay_checks : ℕ → List Check
uplink_overlay_checks address = check 2 (not (ltb address 0x1000000)) ∷ []

unfoldable pub uplink_overlay : ℕ → Answer
unfolding uplink_overlay_checks
uplink_overlay address = checked (uplink_overlay_checks address) refused_by (done (overlay_of address ∷ []))

-- "for DF 11 the code 16×CL + IC"; 2: CL above 7 or IC above 15
unfoldable pub code_overlay_checks : ℕ → ℕ → List Check
code_overlay_checks cl ic = check 2 (not (leb cl 7 && leb ic 15)) ∷ []

unfoldable pub code_overlay : ℕ → ℕ → Answer
unfolding code_overlay_checks
code_overlay cl ic = checked (code_overlay_checks cl ic) refused_by (done ((16 * cl + ic) ∷ []))

-- ---- what is shown of uplink overlays
-- that of the XOR of two addresses is the XOR of theirs, and no two addresses of 24 bits share one; so of the answers that are given
pub record Uplinks : Type 0 where
  pub sum : (a b : ℕ) → overlay_of (bit_xor a b) ≡ bit_xor (overlay_of a) (overlay_of b)
  pub one : (a b : ℕ) → a < 0x1000000 → b < 0x1000000 → overlay_of a ≡ overlay_of b → a ≡ b
  pub sum_given : (a b x y : ℕ) → uplink_overlay a ≡ done (x ∷ []) → uplink_overlay b ≡ done (y ∷ []) → uplink_overlay (bit_xor a b) ≡ done (bit_xor x y ∷ [])
  pub one_given : (a b x : ℕ) → uplink_overlay a ≡ done (x ∷ []) → uplink_overlay b ≡ done (x ∷ []) → a ≡ b
