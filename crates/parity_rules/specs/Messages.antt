-- Messages: "Bits are numbered from 1, sent first, most significant first."
-- A message is a list of bytes; its bits are a list of 0 and 1, the one sent first at the front.
use Rattle.std.specs.Prelude.{ℕ, ◌/◌, ◌%◌, ◌<◌, Bool, ◌||◌, List, [], ◌∷◌, eqb}
use Rattle.std.specs.Int.Bits.{bit_xor}
use Rattle.lists.specs.Lists.{All}

-- the bits of a byte, most significant first, and then the rest
abbrev pub byte_then : ℕ → List ℕ → List ℕ
byte_then b rest =
    b / 128 % 2 ∷ b / 64 % 2 ∷ b / 32 % 2 ∷ b / 16 % 2 ∷ b / 8 % 2 ∷ b / 4 % 2 ∷ b / 2 % 2 ∷ b % 2 ∷ rest

-- the bits of a message
unfoldable pub bits : List ℕ → List ℕ
bits [] = []
bits (b ∷ bs) = byte_then b (bits bs)

-- whether a number of bytes is that of a message: 7 or 14
abbrev pub seven_or_fourteen : ℕ → Bool
seven_or_fourteen n = eqb n 7 || eqb n 14

-- two lists of bits, added place by place: 1 where they differ
unfoldable pub xor_bits : List ℕ → List ℕ → List ℕ
xor_bits [] ys = []
xor_bits (x ∷ xs) [] = []
xor_bits (x ∷ xs) (y ∷ ys) = bit_xor x y ∷ xor_bits xs ys

-- the places where two messages differ
abbrev pub differing : List ℕ → List ℕ → List ℕ
differing m o = xor_bits (bits m) (bits o)

-- every element is 0 or 1
abbrev pub AreBits : List ℕ → Type 0
AreBits xs = All (λ x. x < 2) xs

-- every element is a byte
abbrev pub AreBytes : List ℕ → Type 0
AreBytes bs = All (λ b. b < 256) bs
