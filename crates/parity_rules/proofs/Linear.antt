-- The remainder is linear, and stays below 2 ^ 24.
use mathlib.Core.Path.{◌≡◌, refl, sym, ap, ap₂, ◌∙◌, subst}
use mathlib.Core.List.{List, [], ◌∷◌}
use mathlib.Core.Bool.{Bool, true, false}
use Prim.Native.Nat.{ℕ, ◌+◌, ◌*◌, ◌/◌, ◌%◌, ◌<◌, ◌≤◌}
use native.Mathlib.Nat.{zero-add}
use native.Mathlib.Omega.{arith}
use lib.Dec.{ltb}
use lib.ListN.{length, replicate}
use borrow.Author.Tests.{ltb-true, ltb-false, lt-ltb, le-ltb}
use lib.Bits.{bit_xor, xor_block, xor_lt, xor_shr, xor_zero_r, xor_shifted}
use Rattle.lists.specs.Lists.{spelled, All}
use Rattle.parity_rules.specs.Division.{reduce, generator, shift_in, divide}
use Rattle.parity_rules.specs.Messages.{byte_then, xor_bits, AreBits}
use Rattle.parity_rules.specs.Steps.{moved_up}
use Rattle.lists.proofs.Xor.{bit_ind, xor_swap}

-- a polynomial of degree 24 or less, reduced: the generator is taken off as often as x^24 stands in it
top : (p : ℕ) → p < 33554432 → p / 16777216 < 2
top p h = omega arith

reduce_low : (p : ℕ) → p < 16777216 → reduce p ≡ p
reduce_low p h = rw (lt-ltb p 16777216 h)

reduce_high : (p : ℕ) → 16777216 ≤ p → reduce p ≡ bit_xor p generator
reduce_high p h = rw (le-ltb p 16777216 h)

pub reduce_is : (p : ℕ) → p < 33554432 → reduce p ≡ bit_xor p (p / 16777216 * generator)
reduce_is p h = go (ltb p 16777216) refl
  where
    go : (t : Bool) → ltb p 16777216 ≡ t → reduce p ≡ bit_xor p (p / 16777216 * generator)
    go true e = let l : p < 16777216 = ltb-true p 16777216 e in let z : p / 16777216 ≡ 0 = omega arith in rw (reduce_low p l, z, xor_zero_r p)
    go false e = let l : 16777216 ≤ p = ltb-false p 16777216 e in let z : p / 16777216 ≡ 1 = omega arith in rw (reduce_high p l, z)

pub bit_times : (b : ℕ) → b < 2 → (c : ℕ) → c < 2 → bit_xor b c * generator ≡ bit_xor (b * generator) (c * generator)
bit_times =
    bit_ind (λ b. (c : ℕ) → c < 2 → bit_xor b c * generator ≡ bit_xor (b * generator) (c * generator)) (λ c h. refl)
    (bit_ind (λ c. bit_xor 1 c * generator ≡ bit_xor (1 * generator) (c * generator)) refl refl)

reduce_xor : (p q : ℕ) → p < 33554432 → q < 33554432 → reduce (bit_xor p q) ≡ bit_xor (reduce p) (reduce q)
reduce_xor p q hp hq =
    reduce_is (bit_xor p q) (xor_lt 25 p q hp hq)
    ∙ ap (λ (x : ℕ). bit_xor (bit_xor p q) (x * generator)) (xor_shr p q 24)
    ∙ ap (bit_xor (bit_xor p q)) (bit_times (p / 16777216) (top p hp) (q / 16777216) (top q hq))
    ∙ xor_swap p q (p / 16777216 * generator) (q / 16777216 * generator)
    ∙ sym (ap₂ bit_xor (reduce_is p hp) (reduce_is q hq))

pub shift_xor : (r s b c : ℕ) → r < 16777216 → s < 16777216 → b < 2 → c < 2
    → shift_in (bit_xor r s) (bit_xor b c) ≡ bit_xor (shift_in r b) (shift_in s c)
unfolding shift_in
shift_xor r s b c hr hs hb hc = ap reduce (sym (xor_block 1 r s b c hb hc)) ∙ reduce_xor (r * 2 + b) (s * 2 + c) (omega arith) (omega arith)

-- a remainder has degree 23 at most
pub reduce_lt : (p : ℕ) → p < 33554432 → reduce p < 16777216
reduce_lt p h = go (ltb p 16777216) refl
  where
    go : (t : Bool) → ltb p 16777216 ≡ t → reduce p < 16777216
    go true e = let l : p < 16777216 = ltb-true p 16777216 e in rw (reduce_low p l) l
    go false e =
        let l : 16777216 ≤ p = ltb-false p 16777216 e in
        let z : p ≡ 1 * 16777216 + p % 16777216 = omega arith in
        let m : p % 16777216 < 16777216 = omega arith in
        subst (λ (x : ℕ). x < 16777216)
        (sym
        (reduce_high p l
        ∙ ap (λ (x : ℕ). bit_xor x generator) z
        ∙ xor_block 24 1 1 (p % 16777216) (generator % 16777216) m (omega arith)
        ∙ zero-add (bit_xor (p % 16777216) (generator % 16777216))))
        (xor_lt 24 (p % 16777216) (generator % 16777216) m (omega arith))

pub shift_lt : (r b : ℕ) → r < 16777216 → b < 2 → shift_in r b < 16777216
unfolding shift_in
shift_lt r b hr hb = reduce_lt (r * 2 + b) (omega arith)

pub divide_lt : (xs : List ℕ) → AreBits xs → (r : ℕ) → r < 16777216 → divide r xs < 16777216
unfolding All divide
divide_lt [] h r hr = hr
divide_lt (x ∷ xs) h r hr = divide_lt xs h.1 (shift_in r x) (shift_lt r x hr h.0)

-- the remainder of a sum is the sum of the remainders
pub divide_xor : (xs ys : List ℕ) → AreBits xs → AreBits ys → length xs ≡ length ys → (r s : ℕ) → r < 16777216 → s < 16777216
    → divide (bit_xor r s) (xor_bits xs ys) ≡ bit_xor (divide r xs) (divide s ys)
unfolding All divide xor_bits
divide_xor [] [] hx hy e r s hr hs = refl
divide_xor [] (y ∷ ys) hx hy e r s hr hs = absurd (omega arith)
divide_xor (x ∷ xs) [] hx hy e r s hr hs = absurd (omega arith)
divide_xor (x ∷ xs) (y ∷ ys) hx hy e r s hr hs =
    ap (λ (n : ℕ). divide n (xor_bits xs ys)) (shift_xor r s x y hr hs hx.0 hy.0)
    ∙ divide_xor xs ys hx.1 hy.1 (omega arith) (shift_in r x) (shift_in s y) (shift_lt r x hr hx.0) (shift_lt s y hs hy.0)

-- the number that bits spell stays below 2 ^ 24 on the way
abbrev Low : ℕ → List ℕ → Type 0
Low r [] = Unit {0}
Low r (b ∷ bs) = (r * 2 + b < 16777216) × Low (r * 2 + b) bs

-- a low polynomial takes coefficients with no reduction
low : (r : ℕ) (bs : List ℕ) → Low r bs → divide r bs ≡ spelled r bs
unfolding divide shift_in
low r [] h = refl
low r (b ∷ bs) h = rw (reduce_low (r * 2 + b) h.0) (low (r * 2 + b) bs h.1)

pub byte_bits : (b : ℕ) → AreBits (byte_then b [])
unfolding All
byte_bits b = (omega arith, (omega arith, (omega arith, (omega arith, (omega arith, (omega arith, (omega arith, (omega arith, tt))))))))

-- a byte from its digits: `q` stands for the quotients by 2, 4, .., 128, `d` for the digits
join : (r b q1 q2 q3 q4 q5 q6 d0 d1 d2 d3 d4 d5 d6 d7 : ℕ)
    → q1 * 2 + d0 ≡ b → q2 * 2 + d1 ≡ q1 → q3 * 2 + d2 ≡ q2 → q4 * 2 + d3 ≡ q3 → q5 * 2 + d4 ≡ q4 → q6 * 2 + d5 ≡ q5 → d7 * 2 + d6 ≡ q6
    → spelled r (d7 ∷ d6 ∷ d5 ∷ d4 ∷ d3 ∷ d2 ∷ d1 ∷ d0 ∷ []) ≡ r * 256 + b
join r b q1 q2 q3 q4 q5 q6 d0 d1 d2 d3 d4 d5 d6 d7 e0 e1 e2 e3 e4 e5 e6 = omega arith

pub byte_value : (r b : ℕ) → b < 256 → spelled r (byte_then b []) ≡ r * 256 + b
byte_value r b hb =
    join r b (b / 2) (b / 4) (b / 8) (b / 16) (b / 32) (b / 64) (b % 2) (b / 2 % 2) (b / 4 % 2) (b / 8 % 2) (b / 16 % 2) (b / 32 % 2) (b / 64 % 2) (b / 128 % 2)
    (omega arith) (omega arith) (omega arith) (omega arith) (omega arith) (omega arith) (omega arith)

pub low_byte : (r b : ℕ) → r < 65536 → b < 256 → divide r (byte_then b []) ≡ r * 256 + b
low_byte r b hr hb =
    low r (byte_then b []) (omega arith, (omega arith, (omega arith, (omega arith, (omega arith, (omega arith, (omega arith, (omega arith, tt))))))))
    ∙ byte_value r b hb

-- eight coefficients at once: what the upper byte leaves, moved up, and the rest with the new byte
pub byte_law : (r b : ℕ) → r < 16777216 → b < 256
    → bit_xor (moved_up (r / 65536)) (r % 65536 * 256 + b) ≡ divide r (byte_then b [])
unfolding xor_bits moved_up
byte_law r b hr hb =
    let e : r / 65536 * 65536 + r % 65536 ≡ r = omega arith in
    ap (bit_xor (divide (r / 65536 * 65536) (replicate 8 0))) (sym (low_byte (r % 65536) b (omega arith) hb))
    ∙ sym (divide_xor (replicate 8 0) (byte_then b []) (byte_bits 0) (byte_bits b) refl (r / 65536 * 65536) (r % 65536) (omega arith) (omega arith))
    ∙ ap (λ (n : ℕ). divide n (byte_then b [])) (xor_shifted (r / 65536) 16 (r % 65536) (omega arith) ∙ e)
