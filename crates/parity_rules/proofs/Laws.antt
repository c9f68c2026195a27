-- The laws of remainders, syndromes and overlays that the crates above cite.
use mathlib.Core.Path.{◌≡◌, refl, sym, ap, ap₂, ◌∙◌}
use mathlib.Core.List.{List, [], ◌∷◌, ◌++◌}
use mathlib.Core.Bool.{true}
use Prim.Native.Nat.{ℕ, ◌+◌, ◌*◌, ◌^◌, ◌<◌, ◌≤◌}
use native.Mathlib.Omega.{arith}
use lib.Bits.{bit_xor, xor_zero_r}
use lib.ListN.{length}
use borrow.Author.Tests.{le-leb}
use Rattle.std.specs.Prelude.{Result, Ok}
use Rattle.lists.specs.Answers.{refused_by}
use Rattle.lists.proofs.Tests.{and_yes}
use Rattle.lists.proofs.Checks.{all, end, not_off}
use Rattle.refusals.specs.declared.refusal.Refusal.{Refusal}
use Rattle.parity_rules.specs.Messages.{bits, byte_then, seven_or_fourteen, xor_bits}
use Rattle.parity_rules.specs.Answers.{reckoned_said}
use Rattle.parity_rules.specs.Division.{shift_in, divide, remainder_of, remainder_answer, syndrome, syndrome_of_bit}
use Rattle.parity_rules.specs.Overlays.{low_bits, times, overlay_of, uplink_overlay, code_overlay}
use Rattle.parity_rules.proofs.Bits.{bits_are, bits_append}
use Rattle.parity_rules.proofs.Linear.{divide_lt, divide_xor, low_byte}
use Rattle.parity_rules.proofs.Product.{product_lt}
use Rattle.parity_rules.proofs.Uplink.{is_given}
use Rattle.parity_rules.proofs.Unique.{reckoned_one}

-- ---- "short bit i has the syndrome of long bit i+56", once over the length: d bits more before a bit change nothing
pub same_syndrome : (n i d : ℕ) → syndrome_of_bit n i ≡ syndrome_of_bit (n + d) (i + d)
same_syndrome n i d = ap syndrome (omega arith)

pub short_long : (i : ℕ) → syndrome_of_bit 56 i ≡ syndrome_of_bit 112 (i + 56)
short_long i = same_syndrome 56 i 56

-- ---- a remainder has 24 bits
pub remainder_lt : (msg : List ℕ) → remainder_of (bits msg) < 16777216
unfolding remainder_of
remainder_lt msg = divide_lt (bits msg) (bits_are msg) 0 (omega arith)

-- ---- the last 24 bits lie over the remainder
pub divide_append : (r : ℕ) (s t : List ℕ) → divide r (s ++ t) ≡ divide (divide r s) t
unfolding divide
divide_append r [] t = refl
divide_append r (x ∷ s) t = divide_append (shift_in r x) s t

-- the remainder of a front followed by three bytes
front : (s : List ℕ) (a b c : ℕ) → remainder_of (bits (s ++ (a ∷ b ∷ c ∷ []))) ≡ divide (remainder_of (bits s)) (bits (a ∷ b ∷ c ∷ []))
unfolding remainder_of
front s a b c = ap (divide 0) (bits_append s (a ∷ b ∷ c ∷ [])) ∙ divide_append 0 (bits s) (bits (a ∷ b ∷ c ∷ []))

byte_first : (r x : ℕ) (rest : List ℕ) → divide r (byte_then x rest) ≡ divide (divide r (byte_then x [])) rest
unfolding divide
byte_first r x rest = refl

-- three bytes alone are their own remainder
three : (a b c : ℕ) → a < 256 → b < 256 → c < 256 → divide 0 (bits (a ∷ b ∷ c ∷ [])) ≡ a * 65536 + b * 256 + c
unfolding bits
three a b c ha hb hc =
    byte_first 0 a (bits (b ∷ c ∷ []))
    ∙ ap (λ (r : ℕ). divide r (bits (b ∷ c ∷ []))) (low_byte 0 a (omega arith) ha ∙ omega arith)
    ∙ byte_first a b (bits (c ∷ []))
    ∙ ap (λ (r : ℕ). divide r (bits (c ∷ []))) (low_byte a b (omega arith) hb)
    ∙ low_byte (a * 256 + b) c (omega arith) hc
    ∙ omega arith

nothing : (a b c : ℕ) → xor_bits (bits (0 ∷ 0 ∷ 0 ∷ [])) (bits (a ∷ b ∷ c ∷ [])) ≡ bits (a ∷ b ∷ c ∷ [])
unfolding bits xor_bits
nothing a b c = refl

same_length : (a b c : ℕ) → length (bits (0 ∷ 0 ∷ 0 ∷ [])) ≡ length (bits (a ∷ b ∷ c ∷ []))
unfolding bits
same_length a b c = refl

pub parity_over : (s : List ℕ) (a b c : ℕ) → a < 256 → b < 256 → c < 256
    → remainder_of (bits (s ++ (a ∷ b ∷ c ∷ []))) ≡ bit_xor (remainder_of (bits (s ++ (0 ∷ 0 ∷ 0 ∷ [])))) (a * 65536 + b * 256 + c)
parity_over s a b c ha hb hc =
    let r = remainder_of (bits s) in
    front s a b c
    ∙ ap₂ divide (sym (xor_zero_r r)) (sym (nothing a b c))
    ∙ divide_xor (bits (0 ∷ 0 ∷ 0 ∷ [])) (bits (a ∷ b ∷ c ∷ [])) (bits_are (0 ∷ 0 ∷ 0 ∷ [])) (bits_are (a ∷ b ∷ c ∷ [])) (same_length a b c) r 0
    (remainder_lt s) (omega arith)
    ∙ ap₂ bit_xor (sym (front s 0 0 0)) (three a b c ha hb hc)

-- ---- an uplink overlay has 24 bits
pub overlay_lt : (address : ℕ) → overlay_of address < 16777216
unfolding overlay_of
overlay_lt address = let h : times 0 (low_bits 24 address) < 2 ^ 48 = product_lt 24 address 0 (omega arith) (omega arith) in omega arith

-- ---- what a call that was not refused says: its answer is the number itself
module _ (r : Result ℕ Refusal) where
  pub remainder_is : (msg : List ℕ) → seven_or_fourteen (length msg) ≡ true → reckoned_said r ≡ remainder_answer msg → r ≡ Ok (remainder_of (bits msg))
  unfolding remainder_answer
  remainder_is msg h e = reckoned_one r (Ok (remainder_of (bits msg))) (e ∙ sym (end refused_by _ all (not_off _ h, tt)))

  pub uplink_is : (address : ℕ) → address < 16777216 → reckoned_said r ≡ uplink_overlay address → r ≡ Ok (overlay_of address)
  uplink_is address h e = reckoned_one r (Ok (overlay_of address)) (e ∙ is_given address h)

  pub code_is : (cl ic : ℕ) → cl ≤ 7 → ic ≤ 15 → reckoned_said r ≡ code_overlay cl ic → r ≡ Ok (16 * cl + ic)
  unfolding code_overlay
  code_is cl ic hc hi e =
      reckoned_one r (Ok (16 * cl + ic)) (e ∙ sym (end refused_by _ all (not_off _ (and_yes _ _ (le-leb cl 7 hc) (le-leb ic 15 hi)), tt)))
