-- Remainders and syndromes: a list of bits read as a polynomial and divided by the generator.
-- A polynomial of degree below 25 is a number whose binary digits are its coefficients; `bit_xor` adds two of them.
use Rattle.std.specs.Prelude.{ℕ, ◌+◌, ◌-◌, ◌*◌, List, [], ◌∷◌, not, ltb, length, replicate}
use Rattle.std.specs.Int.Bits.{bit_xor}
use Rattle.lists.specs.Lists.{pick}
use Rattle.lists.specs.Checks.{Check, check, checked}
use Rattle.lists.specs.Answers.{Answer, done, refused_by}
use Rattle.parity_rules.specs.Messages.{bits, seven_or_fourteen}

-- "the generator is 1FFF409 hex"
abbrev pub generator : ℕ
generator = 0x1FFF409

-- a polynomial of degree 24 at most, reduced: where x^24 stands in it the generator is taken off
abbrev pub reduce : ℕ → ℕ
reduce p = pick (ltb p 0x1000000) p (bit_xor p generator)

-- r times x plus the next coefficient, reduced
unfoldable pub shift_in : ℕ → ℕ → ℕ
shift_in r b = reduce (r * 2 + b)

-- long division: what is left of r followed by the bits
unfoldable pub divide : ℕ → List ℕ → ℕ
divide r [] = r
divide r (b ∷ bs) = divide (shift_in r b) bs

-- the remainder of a list of bits as a polynomial
unfoldable pub remainder_of : List ℕ → ℕ
remainder_of bs = divide 0 bs

-- "a message's remainder is the remainder of all its bits as a polynomial"; 1: a message not of 7 or 14 bytes
unfoldable pub remainder_checks : List ℕ → List Check
remainder_checks msg = check 1 (not (seven_or_fourteen (length msg))) ∷ []

unfoldable pub remainder_answer : List ℕ → Answer
unfolding remainder_checks
remainder_answer msg = checked (remainder_checks msg) refused_by (done (remainder_of (bits msg) ∷ []))

-- the syndrome of x^k
unfoldable pub syndrome : ℕ → ℕ
syndrome k = remainder_of (1 ∷ replicate k 0)

-- "the syndrome of bit i in n bits is that of x^(n−i)"
abbrev pub syndrome_of_bit : ℕ → ℕ → ℕ
syndrome_of_bit n i = syndrome (n - i)
