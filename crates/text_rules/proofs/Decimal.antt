-- Laws of decimal numbers: their last digit, how many there are, and that they are read back.
use Prim.Native.Nat.{ℕ, zero, suc, ◌+◌, ◌-◌, ◌*◌, ◌/◌, ◌%◌, ◌^◌, ◌≤◌, ◌<◌}
use native.Mathlib.Nat.{le_refl, pow-suc}
use native.Mathlib.Omega.{arith}
use mathlib.Core.Path.{◌≡◌, refl, ◌∙◌}
use mathlib.Core.Bool.{Bool, true, false}
use mathlib.Core.List.{List, [], ◌∷◌, ◌++◌}
use lib.ListN.{length, length-append}
use lib.Dec.{ltb}
use borrow.Author.Tests.{lt-ltb, le-ltb, ltb-true, ltb-false}
use Rattle.lists.specs.Lists.{pick, All}
use Rattle.lists.proofs.Held.{all_nil, all_snoc}
use Rattle.text_rules.specs.Put.{decimal_in, decimal, numbers_behind}
use Rattle.text_rules.specs.Number.{value_after}

enough : (j k n : ℕ) → n ≤ j → n ≤ k → decimal_in j n ≡ decimal_in k n
unfolding decimal_in
enough zero zero n a b = refl
enough zero (suc k) n a b = rw (lt-ltb n 10 (omega arith))
enough (suc j) zero n a b = rw (lt-ltb n 10 (omega arith))
enough (suc j) (suc k) n a b = rw (enough j k (n / 10) (omega arith) (omega arith))

pub decimal_small : (n : ℕ) → n < 10 → decimal n ≡ (48 + n % 10) ∷ []
unfolding decimal decimal_in
decimal_small zero h = refl
decimal_small (suc n) h = rw (lt-ltb (suc n) 10 h)

pub decimal_more : (n : ℕ) → 10 ≤ n → decimal n ≡ decimal (n / 10) ++ ((48 + n % 10) ∷ [])
unfolding decimal decimal_in
decimal_more zero h = elim h [ ]
decimal_more (suc n) h = rw (le-ltb (suc n) 10 h, enough n (suc n / 10) (suc n / 10) (omega arith) (omega arith))

-- ---- how many digits

-- a digit more in ten times the range
by_test : (k n : ℕ) (b : Bool) → ltb n 10 ≡ b → n < 10 ^ suc (suc k) → ((m : ℕ) → m < 10 ^ suc k → length (decimal m) ≤ suc k)
    → length (decimal n) ≤ suc (suc k)
by_test k n true e h below = rw (decimal_small n (ltb-true n 10 e)) (omega arith)
by_test k n false e h below =
    let p : 10 ^ suc (suc k) ≡ 10 ^ suc k * 10 = pow-suc 10 (suc k) in
    let small : n / 10 < 10 ^ suc k = omega arith in
    rw (decimal_more n (ltb-false n 10 e)) (simp length-append (omega (arith, below (n / 10) small)))

-- a number below 10^(k+1) has at most k + 1 digits
pub decimal_length : (k n : ℕ) → n < 10 ^ suc k → length (decimal n) ≤ suc k
decimal_length zero n h = rw (decimal_small n h) (omega arith)
decimal_length (suc k) n h = by_test k n (ltb n 10) refl h (decimal_length k)

-- a number of 32 bits has at most ten
pub decimal_fits : (n : ℕ) → n < 4294967296 → length (decimal n) ≤ 10
decimal_fits n h = decimal_length 9 n (omega arith)

-- numbers of three digits behind a text: four bytes each
pub behind_short : (ns : List ℕ) → All (λ n. n < 1000) ns → length (numbers_behind ns) ≤ 4 * length ns
unfolding All numbers_behind
behind_short [] h = omega arith
behind_short (n ∷ ns) h = simp length-append (omega (arith, decimal_length 2 n h.0, behind_short ns h.1))

-- ---- a number is read back

pub value_then : (v : ℕ) (a b : List ℕ) → value_after v (a ++ b) ≡ value_after (value_after v a) b
unfolding value_after
value_then v [] b = refl
value_then v (c ∷ a) b = value_then (v * 10 + (c - 48)) a b

value_in : (k n : ℕ) → n ≤ k → value_after 0 (decimal_in k n) ≡ n
unfolding decimal_in value_after
value_in zero n h = omega arith
value_in (suc k) n h = go (ltb n 10) refl (λ l. value_in k (n / 10) l)
  where
    go : (b : Bool) → ltb n 10 ≡ b → (n / 10 ≤ k → value_after 0 (decimal_in k (n / 10)) ≡ n / 10)
        → value_after 0 (pick b [] (decimal_in k (n / 10)) ++ ((48 + n % 10) ∷ [])) ≡ n
    go true e below = omega (arith, ltb-true n 10 e)
    go false e below =
        value_then 0 (decimal_in k (n / 10)) ((48 + n % 10) ∷ [])
        ∙ rw (below (omega (arith, ltb-false n 10 e))) (omega arith)

-- the digits say the number
pub decimal_value : (n : ℕ) → value_after 0 (decimal n) ≡ n
unfolding decimal
decimal_value n = value_in n n (le_refl n)

-- ---- digits are no blanks

printing_in : (k n : ℕ) → All (λ b. 32 < b) (decimal_in k n)
unfolding decimal_in
printing_in zero n = all_snoc (λ b. 32 < b) [] (48 + n % 10) (all_nil (λ b. 32 < b)) (omega arith)
printing_in (suc k) n = go (ltb n 10) (printing_in k (n / 10))
  where
    go : (b : Bool) → All (λ b. 32 < b) (decimal_in k (n / 10)) → All (λ b. 32 < b) (pick b [] (decimal_in k (n / 10)) ++ ((48 + n % 10) ∷ []))
    go true h = all_snoc (λ b. 32 < b) [] (48 + n % 10) (all_nil (λ b. 32 < b)) (omega arith)
    go false h = all_snoc (λ b. 32 < b) (decimal_in k (n / 10)) (48 + n % 10) h (omega arith)

some_in : (k n : ℕ) → 0 < length (decimal_in k n)
unfolding decimal_in
some_in zero n = omega arith
some_in (suc k) n = simp length-append (omega arith)

pub decimal_printing : (n : ℕ) → All (λ b. 32 < b) (decimal n)
unfolding decimal
decimal_printing n = printing_in n n

pub decimal_some : (n : ℕ) → 0 < length (decimal n)
unfolding decimal
decimal_some n = some_in n n
