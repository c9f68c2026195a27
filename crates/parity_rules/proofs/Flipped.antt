-- Flipping some places of a message: its bits, its bytes, and the way back.
use mathlib.Core.Path.{◌≡◌, refl, sym, ap, ap₂, ◌∙◌}
use mathlib.Core.List.{List, [], ◌∷◌}
use Prim.Native.Nat.{ℕ, zero, suc, ◌+◌, ◌*◌, ◌/◌, ◌%◌, ◌^◌, ◌<◌}
use native.Mathlib.Nat.{pow-suc, lt_of_lt_of_le}
use native.Mathlib.Omega.{arith}
use lib.Bits.{bit_xor, xor_block, xor_lt, xor_shr, xor_mod, xor_comm}
use lib.ListN.{length, take, drop, replicate, length-replicate}
use lib.Pow.{pow_mono}
use Rattle.lists.proofs.Xor.{xor_back}
use Rattle.lists.specs.Lists.{spelled, All}
use Rattle.lists.proofs.Held.{all_drop}
use Rattle.parity_rules.specs.Messages.{bits, byte_then, xor_bits, differing, AreBits, AreBytes}
use Rattle.parity_rules.specs.Correction.{flipped, mark_buffer}
use Rattle.parity_rules.proofs.Linear.{byte_value, byte_bits}
use Rattle.parity_rules.proofs.Bits.{bits_length}
use Rattle.parity_rules.proofs.Sum.{xor_zeros}

-- ---- the places where two messages differ, flipped, make the one of the other
spelled_xor : (xs ys : List ℕ) → AreBits xs → AreBits ys → length xs ≡ length ys → (p q : ℕ)
    → spelled (bit_xor p q) (xor_bits xs ys) ≡ bit_xor (spelled p xs) (spelled q ys)
unfolding All xor_bits
spelled_xor [] [] hx hy e p q = refl
spelled_xor [] (y ∷ ys) hx hy e p q = absurd (omega arith)
spelled_xor (x ∷ xs) [] hx hy e p q = absurd (omega arith)
spelled_xor (x ∷ xs) (y ∷ ys) hx hy e p q =
    ap (λ (n : ℕ). spelled n (xor_bits xs ys)) (sym (xor_block 1 p q x y hx.0 hy.0))
    ∙ spelled_xor xs ys hx.1 hy.1 (omega arith) (p * 2 + x) (q * 2 + y)

byte_is : (b : ℕ) → b < 256 → spelled 0 (byte_then b []) ≡ b
byte_is b h = byte_value 0 b h ∙ omega arith

byte_flip : (b c : ℕ) → b < 256 → c < 256 → bit_xor b (spelled 0 (xor_bits (byte_then b []) (byte_then c []))) ≡ c
byte_flip b c hb hc =
    ap (bit_xor b) (spelled_xor (byte_then b []) (byte_then c []) (byte_bits b) (byte_bits c) refl 0 0 ∙ ap₂ bit_xor (byte_is b hb) (byte_is c hc))
    ∙ xor_back b c

pub flipped_back : (msg sent : List ℕ) → AreBytes msg → AreBytes sent → length sent ≡ length msg → flipped msg (differing msg sent) ≡ sent
unfolding All flipped bits xor_bits
flipped_back [] [] hm hs e = refl
flipped_back [] (c ∷ sent) hm hs e = absurd (omega arith)
flipped_back (b ∷ msg) [] hm hs e = absurd (omega arith)
flipped_back (b ∷ msg) (c ∷ sent) hm hs e =
    ap₂ (λ (x : ℕ) (l : List ℕ). x ∷ l) (byte_flip b c hm.0 hs.0) (flipped_back msg sent hm.1 hs.1 (omega arith))

-- ---- the bits of a message with some places flipped
cons8 : (a b c d e f g h a' b' c' d' e' f' g' h' : ℕ) (r r' : List ℕ) → a ≡ a' → b ≡ b' → c ≡ c' → d ≡ d' → e ≡ e' → f ≡ f' → g ≡ g' → h ≡ h' → r ≡ r'
    → ◌≡◌ {A = List ℕ} (a ∷ b ∷ c ∷ d ∷ e ∷ f ∷ g ∷ h ∷ r) (a' ∷ b' ∷ c' ∷ d' ∷ e' ∷ f' ∷ g' ∷ h' ∷ r')
cons8 a b c d e f g h a' b' c' d' e' f' g' h' r r' ea eb ec ed ee ef eg eh er = cc

digit : (b v k : ℕ) → bit_xor b v / 2 ^ k % 2 ≡ bit_xor (b / 2 ^ k % 2) (v / 2 ^ k % 2)
digit b v k = ap (λ (n : ℕ). n % 2) (xor_shr b v k) ∙ xor_mod (b / 2 ^ k) (v / 2 ^ k) 1

byte_xor : (b x0 x1 x2 x3 x4 x5 x6 x7 : ℕ) → x0 < 2 → x1 < 2 → x2 < 2 → x3 < 2 → x4 < 2 → x5 < 2 → x6 < 2 → x7 < 2 → (r : List ℕ)
    → byte_then (bit_xor b (spelled 0 (x0 ∷ x1 ∷ x2 ∷ x3 ∷ x4 ∷ x5 ∷ x6 ∷ x7 ∷ []))) r
    ≡ bit_xor (b / 128 % 2) x0 ∷ bit_xor (b / 64 % 2) x1 ∷ bit_xor (b / 32 % 2)
    x2 ∷ bit_xor (b / 16 % 2) x3 ∷ bit_xor (b / 8 % 2) x4 ∷ bit_xor (b / 4 % 2) x5 ∷ bit_xor (b / 2 % 2) x6 ∷ bit_xor (b % 2) x7 ∷ r
byte_xor b x0 x1 x2 x3 x4 x5 x6 x7 h0 h1 h2 h3 h4 h5 h6 h7 r =
    let v : ℕ = spelled 0 (x0 ∷ x1 ∷ x2 ∷ x3 ∷ x4 ∷ x5 ∷ x6 ∷ x7 ∷ []) in
    let e0 : v / 128 % 2 ≡ x0 = omega arith in
    let e1 : v / 64 % 2 ≡ x1 = omega arith in
    let e2 : v / 32 % 2 ≡ x2 = omega arith in
    let e3 : v / 16 % 2 ≡ x3 = omega arith in
    let e4 : v / 8 % 2 ≡ x4 = omega arith in
    let e5 : v / 4 % 2 ≡ x5 = omega arith in
    let e6 : v / 2 % 2 ≡ x6 = omega arith in
    let e7 : v % 2 ≡ x7 = omega arith in
    cons8 _ _ _ _ _ _ _ _ _ _ _ _ _ _ _ _ r r
    (digit b v 7 ∙ ap (bit_xor (b / 128 % 2)) e0)
    (digit b v 6 ∙ ap (bit_xor (b / 64 % 2)) e1)
    (digit b v 5 ∙ ap (bit_xor (b / 32 % 2)) e2)
    (digit b v 4 ∙ ap (bit_xor (b / 16 % 2)) e3)
    (digit b v 3 ∙ ap (bit_xor (b / 8 % 2)) e4)
    (digit b v 2 ∙ ap (bit_xor (b / 4 % 2)) e5)
    (digit b v 1 ∙ ap (bit_xor (b / 2 % 2)) e6)
    (xor_mod b v 1 ∙ ap (bit_xor (b % 2)) e7)
    refl

pub flipped_bits : (msg s : List ℕ) → AreBits s → length s ≡ length msg * 8 → bits (flipped msg s) ≡ xor_bits (bits msg) s
unfolding All flipped bits xor_bits
flipped_bits [] s h e = refl
flipped_bits (b ∷ msg) [] h e = absurd (omega arith)
flipped_bits (b ∷ msg) (x0 ∷ []) h e = absurd (omega arith)
flipped_bits (b ∷ msg) (x0 ∷ x1 ∷ []) h e = absurd (omega arith)
flipped_bits (b ∷ msg) (x0 ∷ x1 ∷ x2 ∷ []) h e = absurd (omega arith)
flipped_bits (b ∷ msg) (x0 ∷ x1 ∷ x2 ∷ x3 ∷ []) h e = absurd (omega arith)
flipped_bits (b ∷ msg) (x0 ∷ x1 ∷ x2 ∷ x3 ∷ x4 ∷ []) h e = absurd (omega arith)
flipped_bits (b ∷ msg) (x0 ∷ x1 ∷ x2 ∷ x3 ∷ x4 ∷ x5 ∷ []) h e = absurd (omega arith)
flipped_bits (b ∷ msg) (x0 ∷ x1 ∷ x2 ∷ x3 ∷ x4 ∷ x5 ∷ x6 ∷ []) h e = absurd (omega arith)
flipped_bits (b ∷ msg) (x0 ∷ x1 ∷ x2 ∷ x3 ∷ x4 ∷ x5 ∷ x6 ∷ x7 ∷ s) h e =
    byte_xor b x0 x1 x2 x3 x4 x5 x6 x7 h.0 h.1.0 h.1.1.0 h.1.1.1.0 h.1.1.1.1.0 h.1.1.1.1.1.0 h.1.1.1.1.1.1.0
    h.1.1.1.1.1.1.1.0 (bits (flipped msg s))
    ∙ cons8 _ _ _ _ _ _ _ _ _ _ _ _ _ _ _ _ (bits (flipped msg s)) (xor_bits (bits msg) s) refl refl refl refl refl refl refl refl
    (flipped_bits msg s h.1.1.1.1.1.1.1.1 (omega arith))

-- ---- the places flipped are the places where the two differ
xor_twice : (xs ys : List ℕ) → length ys ≡ length xs → xor_bits xs (xor_bits xs ys) ≡ ys
unfolding xor_bits
xor_twice [] [] e = refl
xor_twice [] (y ∷ ys) e = absurd (omega arith)
xor_twice (x ∷ xs) [] e = absurd (omega arith)
xor_twice (x ∷ xs) (y ∷ ys) e = ap₂ (λ (n : ℕ) (l : List ℕ). n ∷ l) (xor_back x y) (xor_twice xs ys (omega arith))

pub flipped_differ : (msg s : List ℕ) → AreBits s → length s ≡ length msg * 8 → differing msg (flipped msg s) ≡ s
flipped_differ msg s h e = ap (xor_bits (bits msg)) (flipped_bits msg s h e) ∙ xor_twice (bits msg) s (e ∙ sym (bits_length msg))

-- flipped again they give the message that came in
pub flipped_twice : (msg s : List ℕ) → flipped (flipped msg s) s ≡ msg
unfolding flipped
flipped_twice [] s = refl
flipped_twice (b ∷ msg) s =
    let v = spelled 0 (take 8 s) in
    ap₂ (λ (x : ℕ) (l : List ℕ). x ∷ l) (xor_comm (bit_xor b v) v ∙ ap (bit_xor v) (xor_comm b v) ∙ xor_back v b) (flipped_twice msg (drop 8 s))

-- ---- the mark buffer of a subset marks the subset's places
bits_zeros : (n : ℕ) → bits (replicate n 0) ≡ replicate (n * 8) 0
unfolding bits
bits_zeros zero = refl
bits_zeros (suc n) =
    let e : suc n * 8 ≡ suc (suc (suc (suc (suc (suc (suc (suc (n * 8)))))))) = omega arith in
    ap (byte_then 0) (bits_zeros n) ∙ ap (λ (k : ℕ). replicate k 0) (sym e)

pub buffer_bits : (n : ℕ) (s : List ℕ) → AreBits s → length s ≡ n * 8 → bits (mark_buffer n s) ≡ s
buffer_bits n s h e =
    flipped_bits (replicate n 0) s h (e ∙ ap (λ (k : ℕ). k * 8) (sym (length-replicate n 0)))
    ∙ ap (λ (l : List ℕ). xor_bits l s) (bits_zeros n ∙ ap (λ (k : ℕ). replicate k 0) (sym e)) ∙ xor_zeros s

pub flipped_length : (msg s : List ℕ) → length (flipped msg s) ≡ length msg
unfolding flipped
flipped_length [] s = refl
flipped_length (b ∷ msg) s = ap suc (flipped_length msg (drop 8 s))

-- bits spell a number of as many digits
spelled_lt : (n k r : ℕ) (s : List ℕ) → AreBits s → r < 2 ^ k → spelled r (take n s) < 2 ^ (n + k)
unfolding All
spelled_lt zero k r s h l = lt_of_lt_of_le l (pow_mono {j = 0 + k} (omega arith))
spelled_lt (suc n) k r [] h l = lt_of_lt_of_le l (pow_mono {j = suc n + k} (omega arith))
spelled_lt (suc n) k r (x ∷ s) h l =
    let e : n + suc k ≡ suc n + k = omega arith in
    rw e at (spelled_lt n (suc k) (r * 2 + x) s h.1 (omega (arith, pow-suc 2 k, h.0)))

pub flipped_bytes : (msg s : List ℕ) → AreBytes msg → AreBits s → AreBytes (flipped msg s)
unfolding All flipped
flipped_bytes [] s hm hs = tt
flipped_bytes (b ∷ msg) s hm hs =
    (xor_lt 8 b (spelled 0 (take 8 s)) hm.0 (spelled_lt 8 0 0 s hs (omega arith)), flipped_bytes msg (drop 8 s) hm.1 (all_drop (λ x. x < 2) 8 s hs))
