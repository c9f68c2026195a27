-- Laws of `bit_xor` that lib.Bits lacks.
use mathlib.Core.Path.{◌≡◌, refl, sym, ap, ap₂, ◌∙◌}
use Prim.Native.Nat.{ℕ, zero, suc, ◌+◌, ◌*◌, ◌/◌, ◌%◌, ◌<◌}
use native.Mathlib.Nat.{not-suc-le-zero, le_of_suc-le-suc}
use native.Mathlib.Omega.{arith}
use lib.Arith.{bin_ind, digits_mod}
use lib.Bits.{bit_xor, differ, xor_step, xor_shr, xor_comm, xor_self, xor_zero_r}

-- a number below 2 is 0 or 1
pub bit_ind : (P : ℕ → Type 0) → P 0 → P 1 → (b : ℕ) → b < 2 → P b
bit_ind P p0 p1 zero h = p0
bit_ind P p0 p1 (suc zero) h = p1
bit_ind P p0 p1 (suc (suc b)) h = absurd (not-suc-le-zero (le_of_suc-le-suc (le_of_suc-le-suc h)))

differ_lt : (x : ℕ) → x < 2 → (y : ℕ) → y < 2 → differ x y < 2
differ_lt = bit_ind (λ x. (y : ℕ) → y < 2 → differ x y < 2) (λ y h. h) (bit_ind (λ y. differ 1 y < 2) (omega arith) (omega arith))

differ_assoc : (x : ℕ) → x < 2 → (y : ℕ) → y < 2 → (z : ℕ) → z < 2 → differ (differ x y) z ≡ differ x (differ y z)
differ_assoc =
    bit_ind (λ x. (y : ℕ) → y < 2 → (z : ℕ) → z < 2 → differ (differ x y) z ≡ differ x (differ y z)) (λ y hy z hz. refl)
    (bit_ind (λ y. (z : ℕ) → z < 2 → differ (differ 1 y) z ≡ differ 1 (differ y z)) (λ z hz. refl)
    (bit_ind (λ z. differ (differ 1 1) z ≡ differ 1 (differ 1 z)) refl refl))

odd : (a : ℕ) → a % 2 < 2
odd a = omega arith

pub xor_half : (a b : ℕ) → bit_xor a b / 2 ≡ bit_xor (a / 2) (b / 2)
xor_half a b = xor_shr a b 1

pub xor_odd : (a b : ℕ) → bit_xor a b % 2 ≡ differ (a % 2) (b % 2)
xor_odd a b = ap (λ (x : ℕ). x % 2) (xor_step a b) ∙ digits_mod (bit_xor (a / 2) (b / 2)) (differ_lt (a % 2) (odd a) (b % 2) (odd b))

pub xor_assoc : (a b c : ℕ) → bit_xor (bit_xor a b) c ≡ bit_xor a (bit_xor b c)
xor_assoc =
    bin_ind (λ (n : ℕ). (b c : ℕ) → bit_xor (bit_xor n b) c ≡ bit_xor n (bit_xor b c)) (λ b c. refl)
    (λ n ih b c.
    xor_step (bit_xor n b) c
    ∙ ap₂ (λ (x y : ℕ). bit_xor x (c / 2) * 2 + differ y (c % 2)) (xor_half n b) (xor_odd n b)
    ∙ ap₂ (λ (x y : ℕ). x * 2 + y) (ih (b / 2) (c / 2)) (differ_assoc (n % 2) (odd n) (b % 2) (odd b) (c % 2) (odd c))
    ∙ sym (xor_step n (bit_xor b c) ∙ ap₂ (λ (x y : ℕ). bit_xor (n / 2) x * 2 + differ (n % 2) y) (xor_half b c) (xor_odd b c)))

-- the middle two change places
pub xor_swap : (a b c d : ℕ) → bit_xor (bit_xor a b) (bit_xor c d) ≡ bit_xor (bit_xor a c) (bit_xor b d)
xor_swap a b c d =
    xor_assoc a b (bit_xor c d)
    ∙ ap (bit_xor a) (sym (xor_assoc b c d) ∙ ap (λ (x : ℕ). bit_xor x d) (xor_comm b c) ∙ xor_assoc c b d)
    ∙ sym (xor_assoc a c (bit_xor b d))

pub xor_cancel : (a b : ℕ) → bit_xor (bit_xor a b) b ≡ a
xor_cancel a b = xor_assoc a b b ∙ ap (bit_xor a) (xor_self b) ∙ xor_zero_r a

-- equal sums: a term goes to the other side
pub xor_move : (a b c : ℕ) → bit_xor a b ≡ c → a ≡ bit_xor c b
xor_move a b c e = sym (xor_cancel a b) ∙ ap (λ (x : ℕ). bit_xor x b) e

pub xor_back : (a b : ℕ) → bit_xor a (bit_xor a b) ≡ b
xor_back a b = sym (xor_assoc a a b) ∙ ap (λ (n : ℕ). bit_xor n b) (xor_self a)
