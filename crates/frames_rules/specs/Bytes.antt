-- Numbers as bytes: "most significant first".
use Rattle.std.specs.Prelude.{ℕ, zero, suc, ◌+◌, ◌*◌, ◌/◌, ◌%◌, ◌^◌, List, [], ◌∷◌}

-- the n low bytes of a number
abbrev pub bytes_of : ℕ → ℕ → List ℕ
bytes_of zero v = []
bytes_of (suc n) v = v / 2 ^ (8 * n) % 256 ∷ bytes_of n v

-- the number r followed by some bytes
abbrev pub followed : ℕ → List ℕ → ℕ
followed r [] = r
followed r (b ∷ bs) = followed (r * 256 + b) bs

-- the number that some bytes are
abbrev pub number_of_bytes : List ℕ → ℕ
number_of_bytes s = followed 0 s
