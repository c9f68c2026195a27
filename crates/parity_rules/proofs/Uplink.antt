-- The uplink overlay of the XOR of two addresses is the XOR of their overlays, and no two addresses share one.
use mathlib.Core.Path.{◌≡◌, refl, sym, ap, ap₂, ◌∙◌}
use mathlib.Core.Bool.{Bool, true, false, not}
use mathlib.Core.List.{List, [], ◌∷◌}
use Prim.Native.Nat.{ℕ, zero, suc, ◌+◌, ◌*◌, ◌/◌, ◌%◌, ◌^◌, ◌<◌, ◌≤◌}
use native.Mathlib.Omega.{arith}
use lib.Bits.{bit_xor, xor_block, xor_lt, xor_shr, xor_mod, xor_zero_r, xor_self}
use lib.Dec.{ltb}
use lib.ListN.{length, get_or}
use lib.Pow.{mod-pow-add}
use borrow.Author.Tests.{ltb-true, lt-ltb}
use Rattle.lists.specs.Lists.{pick, All}
use Rattle.lists.specs.Checks.{check, checked}
use Rattle.lists.specs.Answers.{Answer, done, refused_by}
use Rattle.lists.proofs.Checks.{all, end, not_off}
use Rattle.lists.proofs.Xor.{bit_ind, xor_swap, xor_move}
use Rattle.parity_rules.specs.Messages.{xor_bits, AreBits}
use Rattle.parity_rules.specs.Division.{generator}
use Rattle.parity_rules.specs.Overlays.{low_bits, times, overlay_of, uplink_overlay_checks, uplink_overlay, Uplinks}
use Rattle.parity_rules.proofs.Linear.{bit_times}

-- ---- the low bits of a number
low_are : (n a : ℕ) → AreBits (low_bits n a)
unfolding All low_bits
low_are zero a = tt
low_are (suc n) a = (omega arith, low_are n a)

low_length : (n a : ℕ) → length (low_bits n a) ≡ n
unfolding low_bits
low_length zero a = refl
low_length (suc n) a = ap suc (low_length n a)

low_xor : (n a b : ℕ) → low_bits n (bit_xor a b) ≡ xor_bits (low_bits n a) (low_bits n b)
unfolding low_bits xor_bits
low_xor zero a b = refl
low_xor (suc n) a b =
    ap₂ (λ (x : ℕ) (l : List ℕ). x ∷ l) (ap (λ (x : ℕ). x % 2) (xor_shr a b n) ∙ xor_mod (a / 2 ^ n) (b / 2 ^ n) 1) (low_xor n a b)

-- ---- the product of the generator and a sum is the sum of the products
pub double_xor : (p q : ℕ) → bit_xor (p * 2) (q * 2) ≡ bit_xor p q * 2
double_xor p q =
    let z : (x : ℕ) → x * 2 ≡ x * 2 + 0 = λ x. omega arith in
    ap₂ bit_xor (z p) (z q) ∙ xor_block 1 p q 0 0 (omega arith) (omega arith) ∙ sym (z (bit_xor p q))

times_xor : (xs ys : List ℕ) → AreBits xs → AreBits ys → length xs ≡ length ys → (p q : ℕ)
    → times (bit_xor p q) (xor_bits xs ys) ≡ bit_xor (times p xs) (times q ys)
unfolding All times xor_bits
times_xor [] [] hx hy e p q = refl
times_xor [] (y ∷ ys) hx hy e p q = absurd (omega arith)
times_xor (x ∷ xs) [] hx hy e p q = absurd (omega arith)
times_xor (x ∷ xs) (y ∷ ys) hx hy e p q =
    ap (λ (n : ℕ). times n (xor_bits xs ys))
    (ap₂ bit_xor (sym (double_xor p q)) (bit_times x hx.0 y hy.0) ∙ xor_swap (p * 2) (q * 2) (x * generator) (y * generator))
    ∙ times_xor xs ys hx.1 hy.1 (omega arith) (bit_xor (p * 2) (x * generator)) (bit_xor (q * 2) (y * generator))

pub overlay_xor : (a b : ℕ) → overlay_of (bit_xor a b) ≡ bit_xor (overlay_of a) (overlay_of b)
unfolding overlay_of
overlay_xor a b =
    ap (λ (l : List ℕ). times 0 l / 2 ^ 24) (low_xor 24 a b)
    ∙ ap (λ (n : ℕ). n / 2 ^ 24)
    (times_xor (low_bits 24 a) (low_bits 24 b) (low_are 24 a) (low_are 24 b) (low_length 24 a ∙ sym (low_length 24 b)) 0 0)
    ∙ xor_shr (times 0 (low_bits 24 a)) (times 0 (low_bits 24 b)) 24

-- ---- once x^24 or a higher power stands in a product, one does to the end
high_step : (p b : ℕ) → b < 2 → 16777216 ≤ p → 16777216 ≤ bit_xor (p * 2) (b * generator)
high_step p b hb h =
    let z : b * generator / 33554432 ≡ 0 = omega arith in
    let e : bit_xor (p * 2) (b * generator) / 33554432 ≡ p * 2 / 33554432 =
    xor_shr (p * 2) (b * generator) 25 ∙ ap (bit_xor (p * 2 / 33554432)) z ∙ xor_zero_r (p * 2 / 33554432) in
    omega arith

high : (bs : List ℕ) → AreBits bs → (p : ℕ) → 16777216 ≤ p → 16777216 ≤ times p bs
unfolding All times
high [] h p hp = hp
high (b ∷ bs) h p hp = high bs h.1 (bit_xor (p * 2) (b * generator)) (high_step p b h.0 hp)

-- so a product with no power from x^24 on is that of zero
first_zero : (bs : List ℕ) → AreBits bs → (b : ℕ) → b < 2 → times (bit_xor 0 (b * generator)) bs < 16777216 → (b ≡ 0) × (times 0 bs < 16777216)
first_zero bs h =
    bit_ind (λ b. times (bit_xor 0 (b * generator)) bs < 16777216 → (b ≡ 0) × (times 0 bs < 16777216)) (λ l. (refl, l))
    (λ l. absurd (omega (arith, high bs h generator (omega arith))))

low_more : (a n : ℕ) → a % 2 ^ suc n ≡ a / 2 ^ n % 2 * 2 ^ n + a % 2 ^ n
low_more a n = let e : suc n ≡ 1 + n = omega arith in rw e (mod-pow-add a 1 n)

zero_low : (n a : ℕ) → times 0 (low_bits n a) < 16777216 → a % 2 ^ n ≡ 0
unfolding times low_bits
zero_low zero a h = omega arith
zero_low (suc n) a h =
    let f = first_zero (low_bits n a) (low_are n a) (a / 2 ^ n % 2) (omega arith) h in
    low_more a n ∙ ap₂ (λ (x y : ℕ). x * 2 ^ n + y) f.0 (zero_low n a f.1) ∙ omega arith

-- ---- two addresses with the same overlay are one: that of their XOR is zero, and so is their XOR
pub overlay_one : (a b : ℕ) → a < 16777216 → b < 16777216 → overlay_of a ≡ overlay_of b → a ≡ b
unfolding overlay_of
overlay_one a b ha hb e =
    let z : overlay_of (bit_xor a b) ≡ 0 = overlay_xor a b ∙ ap (λ (x : ℕ). bit_xor x (overlay_of b)) e ∙ xor_self (overlay_of b) in
    let m : bit_xor a b % 16777216 ≡ 0 = zero_low 24 (bit_xor a b) (omega (arith, z)) in
    let s : bit_xor a b < 16777216 = xor_lt 24 a b ha hb in
    let y : bit_xor a b ≡ 0 = omega arith in
    xor_move a b 0 y

-- ---- the answers that are given
module _ (a : ℕ) where
  was_given : (x : ℕ) → uplink_overlay a ≡ done (x ∷ []) → (a < 16777216) × (overlay_of a ≡ x)
  unfolding uplink_overlay uplink_overlay_checks checked
  was_given x = go (ltb a 16777216) refl
    where
      go : (b : Bool) → ltb a 16777216 ≡ b → pick (not b) (refused_by (check 2 (not b))) (done (overlay_of a ∷ [])) ≡ done (x ∷ [])
          → (a < 16777216) × (overlay_of a ≡ x)
      go true h e = (ltb-true a 16777216 h, ap (λ (r : Answer). get_or r.values 0 0) e)
      go false h e = absurd (omega (arith, ap (λ (r : Answer). r.number) e))

  pub is_given : a < 16777216 → uplink_overlay a ≡ done (overlay_of a ∷ [])
  unfolding uplink_overlay uplink_overlay_checks
  is_given h = sym (end refused_by _ all (not_off _ (lt-ltb a 16777216 h), tt))

sum_of_given : (a b x y : ℕ) → uplink_overlay a ≡ done (x ∷ []) → uplink_overlay b ≡ done (y ∷ []) → uplink_overlay (bit_xor a b) ≡ done (bit_xor x y ∷ [])
sum_of_given a b x y e f =
    let p = was_given a x e in
    let q = was_given b y f in
    is_given (bit_xor a b) (xor_lt 24 a b p.0 q.0) ∙ ap (λ (n : ℕ). done (n ∷ [])) (overlay_xor a b ∙ ap₂ bit_xor p.1 q.1)

one_of_given : (a b x : ℕ) → uplink_overlay a ≡ done (x ∷ []) → uplink_overlay b ≡ done (x ∷ []) → a ≡ b
one_of_given a b x e f =
    let p = was_given a x e in
    let q = was_given b x f in
    overlay_one a b p.0 q.0 (p.1 ∙ sym q.1)

-- the bounds and the equation are read off the claim by omega, which refuses one that says too much
pub uplinks : Uplinks
uplinks =
    record {
      sum = overlay_xor;
      one = λ a b ha hb e. overlay_one a b (omega arith) (omega arith) (omega arith);
      sum_given = sum_of_given;
      one_given = one_of_given;
    }
