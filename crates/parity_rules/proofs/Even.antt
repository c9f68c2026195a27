-- A list of bits that the generator divides has an even number of ones, whatever its length: x + 1 divides the generator.
use mathlib.Core.Path.{◌≡◌, refl, sym, ap, ap₂, ◌∙◌}
use mathlib.Core.List.{List, [], ◌∷◌}
use Prim.Native.Nat.{ℕ, zero, suc, ◌+◌, ◌*◌, ◌/◌, ◌%◌, ◌^◌, ◌<◌}
use native.Mathlib.Nat.{pow-suc}
use native.Mathlib.Omega.{arith}
use lib.Bits.{bit_xor, xor_mod, xor_zero_r}
use Rattle.lists.specs.Lists.{All}
use Rattle.lists.proofs.Xor.{bit_ind, xor_half, xor_swap, xor_assoc}
use Rattle.parity_rules.specs.Messages.{AreBits}
use Rattle.parity_rules.specs.Division.{generator, reduce, shift_in, divide, remainder_of}
use Rattle.parity_rules.specs.Correction.{size_of, xor_of}
use Rattle.parity_rules.proofs.Linear.{reduce_is, reduce_lt, shift_lt}
use Rattle.parity_rules.proofs.Sum.{sum_is}

-- 1 where an odd number of the k low digits are ones
unfoldable odds : ℕ → ℕ → ℕ
odds zero a = 0
odds (suc k) a = bit_xor (a % 2) (odds k (a / 2))

odds_xor : (k a b : ℕ) → odds k (bit_xor a b) ≡ bit_xor (odds k a) (odds k b)
unfolding odds
odds_xor zero a b = refl
odds_xor (suc k) a b =
    ap₂ bit_xor (xor_mod a b 1) (ap (odds k) (xor_half a b) ∙ odds_xor k (a / 2) (b / 2))
    ∙ xor_swap (a % 2) (b % 2) (odds k (a / 2)) (odds k (b / 2))

-- digits above a number's own are zeros
none_low : (a : ℕ) → a < 1 → bit_xor (a % 2) 0 ≡ 0
none_low a h = let z : a % 2 ≡ 0 = omega arith in rw z refl

odds_more : (k a : ℕ) → a < 2 ^ k → odds (suc k) a ≡ odds k a
unfolding odds
odds_more zero a h = none_low a h
odds_more (suc k) a h = ap (bit_xor (a % 2)) (odds_more k (a / 2) (omega (arith, pow-suc 2 k)))

-- the generator has an even number of ones, and so has nothing
odds_generator : (c : ℕ) → c < 2 → odds 25 (c * generator) ≡ 0
unfolding odds
odds_generator = bit_ind (λ c. odds 25 (c * generator) ≡ 0) refl refl

odds_reduce : (p : ℕ) → p < 33554432 → odds 24 (reduce p) ≡ odds 25 p
odds_reduce p h =
    sym (odds_more 24 (reduce p) (reduce_lt p h)) ∙ ap (odds 25) (reduce_is p h) ∙ odds_xor 25 p (p / 16777216 * generator)
    ∙ ap (bit_xor (odds 25 p)) (odds_generator (p / 16777216) (omega arith)) ∙ xor_zero_r (odds 25 p)

odds_shift : (r b : ℕ) → r < 16777216 → b < 2 → odds 24 (shift_in r b) ≡ bit_xor b (odds 24 r)
unfolding odds shift_in
odds_shift r b hr hb =
    let m : (r * 2 + b) % 2 ≡ b = omega arith in
    let d : (r * 2 + b) / 2 ≡ r = omega arith in
    odds_reduce (r * 2 + b) (omega arith) ∙ ap₂ (λ (x y : ℕ). bit_xor x (odds 24 y)) m d

-- one bit more or less in the count
count_bit : (b : ℕ) → b < 2 → (w : ℕ) → bit_xor (w % 2) b ≡ (b + w) % 2
count_bit = bit_ind (λ b. (w : ℕ) → bit_xor (w % 2) b ≡ (b + w) % 2) (λ w. xor_zero_r (w % 2) ∙ omega arith) (λ w. flip (w % 2) (omega arith) w refl)
  where
    flip : (q : ℕ) → q < 2 → (w : ℕ) → w % 2 ≡ q → bit_xor q 1 ≡ (1 + w) % 2
    flip = bit_ind (λ q. (w : ℕ) → w % 2 ≡ q → bit_xor q 1 ≡ (1 + w) % 2) (λ w e. omega arith) (λ w e. omega arith)

odds_divide : (bs : List ℕ) → AreBits bs → (r : ℕ) → r < 16777216 → odds 24 (divide r bs) ≡ bit_xor (size_of bs % 2) (odds 24 r)
unfolding All divide size_of
odds_divide [] h r l = refl
odds_divide (b ∷ bs) h r l =
    odds_divide bs h.1 (shift_in r b) (shift_lt r b l h.0) ∙ ap (bit_xor (size_of bs % 2)) (odds_shift r b l h.0)
    ∙ sym (xor_assoc (size_of bs % 2) b (odds 24 r)) ∙ ap (λ (n : ℕ). bit_xor n (odds 24 r)) (count_bit b h.0 (size_of bs))

-- bits whose sum is zero are even in number
pub even_size : (d : List ℕ) → AreBits d → xor_of d ≡ 0 → size_of d % 2 ≡ 0
unfolding odds remainder_of
even_size d h e =
    sym (xor_zero_r (size_of d % 2)) ∙ sym (odds_divide d h 0 (omega arith)) ∙ ap (odds 24) (sym (sum_is d h) ∙ e)
