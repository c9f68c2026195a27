-- Numbers as bytes: the steps of the loops that read and write them, and the two ways undo each other.
use mathlib.Core.Path.{◌≡◌, refl, sym, ap, ap₂, ◌∙◌}
use mathlib.Core.List.{List, [], ◌∷◌}
use Prim.Native.Nat.{ℕ, zero, suc, ◌+◌, ◌*◌, ◌/◌, ◌%◌, ◌^◌, ◌<◌, ◌≤◌}
use native.Mathlib.Nat.{lt_of_lt_of_le, add-mul, mul_assoc, add_assoc, mod-eq_of_lt}
use native.Mathlib.Omega.{arith}
use lib.ListN.{length, take}
use lib.Arith.{digits_lt, digits_mod}
use lib.Pow.{pow-add, pow_mono, mod-pow-add, high}
use lib.Seq.{take_all}
use Rattle.parity_rules.specs.Messages.{AreBytes}
use Rattle.frames_rules.specs.Bytes.{bytes_of, followed, number_of_bytes}
use Rattle.lists.specs.Lists.{All}

-- ---- reading: one byte on
widen : (r b x : ℕ) → r < x → b < 256 → r * 256 + b < x * 256
widen r b x hr hb = omega arith

-- eight bits more
pub eight : (i : ℕ) → 2 ^ (8 * (i + 1)) ≡ 2 ^ (8 * i) * 256
eight i = let e : 8 * (i + 1) ≡ 8 * i + 8 = omega arith in rw e (pow-add 2 (8 * i) 8)

pub byte_on : (r b i : ℕ) → r < 2 ^ (8 * i) → b < 256 → r * 256 + b < 2 ^ (8 * (i + 1))
byte_on r b i hr hb = rw (eight i) (widen r b (2 ^ (8 * i)) hr hb)

-- a number of fewer than seven bytes has 48 bits
pub room : (r i : ℕ) → i < 7 → r < 2 ^ (8 * i) → r < 281474976710656
room r i h hr = lt_of_lt_of_le hr (pow_mono {i = 8 * i} {j = 48} (omega arith))

-- ---- the number of a number's bytes
pub eight_more : (n : ℕ) → 2 ^ (8 * suc n) ≡ 256 * 2 ^ (8 * n)
eight_more n = let e : 8 * suc n ≡ 8 + 8 * n = omega arith in rw e (pow-add 2 8 (8 * n))

grown : (r d x m : ℕ) → (r * 256 + d) * x + m ≡ r * (256 * x) + (d * x + m)
grown r d x m = ap (λ (k : ℕ). k + m) (add-mul (r * 256) d x ∙ ap (λ (k : ℕ). k + d * x) (mul_assoc r 256 x)) ∙ add_assoc (r * (256 * x)) (d * x) m

low_more : (v n : ℕ) → v % 2 ^ (8 * suc n) ≡ v / 2 ^ (8 * n) % 256 * 2 ^ (8 * n) + v % 2 ^ (8 * n)
low_more v n = let e : 8 * suc n ≡ 8 + 8 * n = omega arith in rw e (mod-pow-add v 8 (8 * n))

bytes_after : (n v r : ℕ) → followed r (bytes_of n v) ≡ r * 2 ^ (8 * n) + v % 2 ^ (8 * n)
bytes_after zero v r = omega arith
bytes_after (suc n) v r =
    bytes_after n v (r * 256 + v / 2 ^ (8 * n) % 256)
    ∙ grown r (v / 2 ^ (8 * n) % 256) (2 ^ (8 * n)) (v % 2 ^ (8 * n))
    ∙ sym (ap₂ (λ (x y : ℕ). r * x + y) (eight_more n) (low_more v n))

none_before : (x y : ℕ) → 0 * x + y ≡ y
none_before x y = omega arith

pub number_bytes : (n v : ℕ) → v < 2 ^ (8 * n) → number_of_bytes (bytes_of n v) ≡ v
number_bytes n v h = bytes_after n v 0 ∙ none_before (2 ^ (8 * n)) (v % 2 ^ (8 * n)) ∙ mod-eq_of_lt h

-- ---- the bytes of a number that was some bytes
split : (t : List ℕ) (q : ℕ) → followed q t ≡ q * 2 ^ (8 * length t) + followed 0 t
split [] q = omega arith
split (b ∷ t) q =
    split t (q * 256 + b)
    ∙ grown q b (2 ^ (8 * length t)) (followed 0 t)
    ∙ sym (ap₂ (λ (x y : ℕ). q * x + y) (eight_more (length t)) (ap (λ (k : ℕ). followed k t) (none_before 256 b) ∙ split t b))

pub number_lt : (t : List ℕ) → AreBytes t → number_of_bytes t < 2 ^ (8 * length t)
unfolding All
number_lt [] h = omega arith
number_lt (b ∷ t) h =
    rw (eight_more (length t), none_before 256 b, split t b)
    (digits_lt {q = b} {m = 256} {r = followed 0 t} {c = 2 ^ (8 * length t)} h.0 (number_lt t h.1))

bytes_back : (t : List ℕ) → AreBytes t → (q : ℕ) → bytes_of (length t) (followed q t) ≡ t
unfolding All
bytes_back [] h q = refl
bytes_back (b ∷ t) h q =
    ap₂ (λ (x : ℕ) (l : List ℕ). x ∷ l)
    (ap (λ (k : ℕ). k / 2 ^ (8 * length t) % 256) (split t (q * 256 + b))
    ∙ ap (λ (k : ℕ). k % 256) (high (q * 256 + b) (8 * length t) (number_lt t h.1))
    ∙ digits_mod q h.0)
    (bytes_back t h.1 (q * 256 + b))

pub bytes_number : (t : List ℕ) → AreBytes t → bytes_of (length t) (number_of_bytes t) ≡ t
bytes_number t h = bytes_back t h 0

-- ---- every element is a byte
pub bytes_are : (n v : ℕ) → AreBytes (bytes_of n v)
unfolding All
bytes_are zero v = tt
bytes_are (suc n) v = (omega arith, bytes_are n v)

-- ---- of at most seven bytes the first seven are all
pub few_bytes : (s : List ℕ) {r : ℕ} → r ≡ number_of_bytes s → length s ≤ 7 → r ≡ number_of_bytes (take 7 s)
few_bytes s e h = e ∙ ap number_of_bytes (sym (take_all 7 s h))

pub seven_bytes : (s : List ℕ) {r : ℕ} → r ≡ number_of_bytes (take 7 s) → length s ≡ 7 → r ≡ number_of_bytes s
seven_bytes s e h = e ∙ ap number_of_bytes (take_all 7 s (omega arith))
