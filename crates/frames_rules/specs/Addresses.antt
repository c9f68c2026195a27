-- The address of an uplink remainder: the number whose uplink overlay it is, had by division.
-- The overlay is the upper half of generator times address, so the address is the quotient of overlay times x^24 by the generator.
use Rattle.std.specs.Prelude.{ℕ, zero, suc, ◌/◌, List, [], ◌∷◌, ltb, Option, Some, None}
use Rattle.lists.specs.Lists.{pick, spelled}
use Rattle.lists.specs.Answers.{Answer}
use Rattle.parity_rules.specs.Division.{shift_in}
use Rattle.frames_rules.specs.Answers.{address_said}

-- the next n coefficients of the quotient, when the long division has r left: 1 where x^24 stands in r times x
unfoldable pub quotient_bits : ℕ → ℕ → List ℕ
quotient_bits zero r = []
quotient_bits (suc n) r = r / 0x800000 ∷ quotient_bits n (shift_in r 0)

-- the quotient of r times x^24 by the generator
unfoldable pub quotient_of : ℕ → ℕ
quotient_of r = spelled 0 (quotient_bits 24 r)

-- the number of 24 bits whose uplink overlay this is, and nobody's above 24 bits; proofs/Invert.antt shows that it is, and the only one
unfoldable pub address_of : ℕ → Option ℕ
address_of remainder = pick (ltb remainder 0x1000000) (Some (quotient_of remainder)) None

unfoldable pub address_told : ℕ → Answer
address_told remainder = address_said (address_of remainder)
