-- The code's ways to the parts of a code give what the definitions give.
use Prim.Native.Nat.{ℕ, ◌+◌, ◌-◌, ◌*◌, ◌/◌, ◌%◌, ◌^◌, ◌<◌, ◌≤◌}
use native.Mathlib.Nat.{le_of_suc-le-suc}
use native.Mathlib.Omega.{arith}
use mathlib.Core.List.{List, [], ◌∷◌}
use mathlib.Core.Path.{◌≡◌, refl, ap, ◌∙◌}
use mathlib.Core.Bool.{Bool, true, false}
use lib.Bits.{bit_xor}
use lib.Dec.{eqb}
use lib.ListN.{get_or}
use Rattle.lists.specs.Lists.{pick, every, spelled}
use Rattle.lists.proofs.Every.{equal_below, less_below}
use Rattle.altitude_rules.specs.WayBack.{code_by_25, gray_code, group_bits, code_of_bits, code_by_100}
use Rattle.altitude_rules.specs.Code.{bit_at, C1, A1, C2, A2, C4, A4, B1, B2, D2, B4, D4}
use Rattle.altitude_rules.specs.Code.{gray_value, eleven, eight, five_hundreds, pattern_of, group, hundreds}

-- the code's way back from Gray code, tried on all 256 numbers of eight bits
abbrev pub folded : ℕ → ℕ
folded g =
    let by4 = bit_xor g (g / 2 ^ 4) in
    let by2 = bit_xor by4 (by4 / 2 ^ 2) in
    bit_xor by2 (by2 / 2 ^ 1)

pub gray_is : (g : ℕ) → g < 256 → folded g ≡ gray_value 8 g
unfolding every gray_value
gray_is g h = equal_below folded (gray_value 8) 256 refl g h

pub gray_lt : (g : ℕ) → g < 256 → folded g < 256
unfolding every
gray_lt g h = less_below folded 256 256 refl g h

-- tried on all 8,192 codes
pub eleven_is : (ac : ℕ) → ac < 8192 → ac / 2 ^ 7 * 32 + ac / 2 ^ 5 % 2 * 16 + ac % 16 ≡ eleven ac
unfolding every eleven
eleven_is ac h = equal_below (λ x. x / 2 ^ 7 * 32 + x / 2 ^ 5 % 2 * 16 + x % 16) eleven 8192 refl ac h

-- any eleven bits spell a number below 2048
eleven_of : (b1 b2 b3 b4 b5 b6 b7 b8 b9 b10 b11 : ℕ) → b1 < 2 → b2 < 2 → b3 < 2 → b4 < 2 → b5 < 2 → b6 < 2 → b7 < 2 → b8 < 2 → b9 < 2 → b10 < 2 → b11 < 2
    → spelled 0 (b1 ∷ b2 ∷ b3 ∷ b4 ∷ b5 ∷ b6 ∷ b7 ∷ b8 ∷ b9 ∷ b10 ∷ b11 ∷ []) < 2048
eleven_of b1 b2 b3 b4 b5 b6 b7 b8 b9 b10 b11 h1 h2 h3 h4 h5 h6 h7 h8 h9 h10 h11 = omega arith

pub eleven_lt : (ac : ℕ) → eleven ac < 2048
unfolding eleven
eleven_lt ac =
    eleven_of (C1 ac) (A1 ac) (C2 ac) (A2 ac) (C4 ac) (A4 ac) (B1 ac) (B2 ac) (D2 ac) (B4 ac) (D4 ac)
    (omega arith) (omega arith) (omega arith) (omega arith) (omega arith) (omega arith) (omega arith) (omega arith) (omega arith) (omega arith) (omega arith)

abbrev pub patterns : List ℕ
patterns = 0 ∷ 1 ∷ 3 ∷ 2 ∷ 5 ∷ 0 ∷ 4 ∷ 0 ∷ []

pattern_is : (c : ℕ) → c < 8 → get_or patterns c 0 ≡ pattern_of c
unfolding every
pattern_is c h = equal_below (λ x. get_or patterns x 0) pattern_of 8 refl c h

pattern_lt : (c : ℕ) → c < 8 → get_or patterns c 0 < 6
unfolding every
pattern_lt c h = less_below (λ x. get_or patterns x 0) 6 8 refl c h

module _ (ac : ℕ) where
  pub group_is : get_or patterns (C1 ac * 4 + C2 ac * 2 + C4 ac) 0 ≡ group ac
  unfolding group
  group_is =
      let e : C1 ac * 4 + C2 ac * 2 + C4 ac ≡ spelled 0 (C1 ac ∷ C2 ac ∷ C4 ac ∷ []) = omega arith in
      pattern_is (C1 ac * 4 + C2 ac * 2 + C4 ac) (omega arith) ∙ ap pattern_of e

  pub group_le : get_or patterns (C1 ac * 4 + C2 ac * 2 + C4 ac) 0 ≤ 5
  group_le = le_of_suc-le-suc (pattern_lt (C1 ac * 4 + C2 ac * 2 + C4 ac) (omega arith))

-- the eight bits in three groups, over any bits
module _ (d2 d4 a1 a2 a4 b1 b2 b4 : ℕ) where
  pub three_groups : (d2 * 2 + d4) * 64 + (a1 * 4 + a2 * 2 + a4) * 8 + (b1 * 4 + b2 * 2 + b4) ≡ spelled 0 (d2 ∷ d4 ∷ a1 ∷ a2 ∷ a4 ∷ b1 ∷ b2 ∷ b4 ∷ [])
  three_groups = omega arith

  pub three_groups_lt : d2 < 2 → d4 < 2 → a1 < 2 → a2 < 2 → a4 < 2 → b1 < 2 → b2 < 2 → b4 < 2
      → (d2 * 2 + d4) * 64 + (a1 * 4 + a2 * 2 + a4) * 8 + (b1 * 4 + b2 * 2 + b4) < 256
  three_groups_lt h1 h2 h3 h4 h5 h6 h7 h8 = omega arith

-- ---- how large the parts are

pub eight_is : (ac : ℕ) → (D2 ac * 2 + D4 ac) * 64 + (A1 ac * 4 + A2 ac * 2 + A4 ac) * 8 + (B1 ac * 4 + B2 ac * 2 + B4 ac) ≡ eight ac
unfolding eight
eight_is ac = three_groups (D2 ac) (D4 ac) (A1 ac) (A2 ac) (A4 ac) (B1 ac) (B2 ac) (B4 ac)

pub eight_lt : (ac : ℕ) → (D2 ac * 2 + D4 ac) * 64 + (A1 ac * 4 + A2 ac * 2 + A4 ac) * 8 + (B1 ac * 4 + B2 ac * 2 + B4 ac) < 256
eight_lt ac =
    three_groups_lt (D2 ac) (D4 ac) (A1 ac) (A2 ac) (A4 ac) (B1 ac) (B2 ac) (B4 ac)
    (omega arith) (omega arith) (omega arith) (omega arith) (omega arith) (omega arith) (omega arith) (omega arith)

pub five_lt : (ac : ℕ) → five_hundreds ac < 256
unfolding five_hundreds
five_lt ac =
    let h : eight ac < 256 = rw (eight_is ac) at (eight_lt ac) in
    rw (gray_is (eight ac) h) at (gray_lt (eight ac) h)

group_small : (ac : ℕ) → group ac ≤ 5
group_small ac = rw (group_is ac) at (group_le ac)

by_parity : (t : Bool) (c : ℕ) → c ≤ 5 → pick t (6 - c) c ≤ 6
by_parity true c h = omega arith
by_parity false c h = omega arith

pub hundreds_le : (ac : ℕ) → hundreds (five_hundreds ac) (group ac) ≤ 6
unfolding hundreds
hundreds_le ac = by_parity (eqb (five_hundreds ac % 2) 1) (group ac) (group_small ac)

-- ---- the way back

-- a pattern is asked for by a number from 1 to 5, turned or not
pub turned_le : (n c : ℕ) → 0 < c → c ≤ 5 → hundreds n c ≤ 5
unfolding hundreds
turned_le n c l h = go (eqb (n % 2) 1)
  where
    go : (t : Bool) → pick t (6 - c) c ≤ 5
    go true = omega arith
    go false = omega arith

-- tried on all 2,048 numbers of eleven bits
pub code_25_is : (n : ℕ) → n < 2048 → n / 2 ^ 5 * 128 + n / 2 ^ 4 % 2 * 32 + 16 + n % 16 ≡ code_by_25 n
unfolding every code_by_25
code_25_is n h = equal_below (λ x. x / 2 ^ 5 * 128 + x / 2 ^ 4 % 2 * 32 + 16 + x % 16) code_by_25 2048 refl n h

-- eight bits at their places, over any bits
module _ (d2 d4 a1 a2 a4 b1 b2 b4 : ℕ) where
  eight_at_is : a1 * 2048 + a2 * 512 + a4 * 128 + (b1 * 32 + b2 * 8 + b4 * 2) + d2 * 4 + d4
      ≡ spelled 0 (0 ∷ a1 ∷ 0 ∷ a2 ∷ 0 ∷ a4 ∷ 0 ∷ b1 ∷ 0 ∷ b2 ∷ d2 ∷ b4 ∷ d4 ∷ [])
  eight_at_is = omega arith

  eight_at_lt : d2 < 2 → d4 < 2 → a1 < 2 → a2 < 2 → a4 < 2 → b1 < 2 → b2 < 2 → b4 < 2
      → a1 * 2048 + a2 * 512 + a4 * 128 + (b1 * 32 + b2 * 8 + b4 * 2) + d2 * 4 + d4 < 8192
  eight_at_lt h1 h2 h3 h4 h5 h6 h7 h8 = omega arith

module _ (g : ℕ) where
  abbrev pub eight_at : ℕ
  eight_at =
      bit_at 5 g * 2048 + bit_at 4 g * 512 + bit_at 3 g * 128 + (bit_at 2 g * 32 + bit_at 1 g * 8 + g % 2 * 2) + bit_at 7 g * 4 + bit_at 6 g

  pub eight_placed : eight_at ≡ code_of_bits g 0
  unfolding code_of_bits
  eight_placed =
      let last : bit_at 0 g ≡ g % 2 = omega arith in
      rw last (eight_at_is (bit_at 7 g) (bit_at 6 g) (bit_at 5 g) (bit_at 4 g) (bit_at 3 g) (bit_at 2 g) (bit_at 1 g) (g % 2))

  pub eight_placed_lt : eight_at < 8192
  eight_placed_lt =
      eight_at_lt (bit_at 7 g) (bit_at 6 g) (bit_at 5 g) (bit_at 4 g) (bit_at 3 g) (bit_at 2 g) (bit_at 1 g) (g % 2)
      (omega arith) (omega arith) (omega arith) (omega arith) (omega arith) (omega arith) (omega arith) (omega arith)

-- the bits of both parts, each at its place
both_parts : (g p : ℕ) → code_of_bits g 0 + code_of_bits 0 p ≡ code_of_bits g p
unfolding code_of_bits
both_parts g p = omega arith

-- the parts of the 100 ft code, as they are reckoned one after the other
pub hundred_is : (k h : ℕ) {e t : ℕ} → h ≡ hundreds (k / 5) (k % 5 + 1) → e ≡ code_of_bits (gray_code (k / 5)) 0 → t ≡ code_of_bits 0 (group_bits h)
    → e + t ≡ code_by_100 k
unfolding code_by_100
hundred_is k h hs es ts = rw (es, ts, hs) (both_parts (gray_code (k / 5)) (group_bits (hundreds (k / 5) (k % 5 + 1))))
