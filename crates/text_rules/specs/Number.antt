-- A word as a decimal number.
use Rattle.std.specs.Prelude.{ℕ, ◌+◌, ◌-◌, ◌*◌, ◌^◌, List, [], ◌∷◌, Bool, true, ◌&&◌, leb, ltb, length, Option, Some, None}
use Rattle.lists.specs.Lists.{pick}

unfoldable pub between : ℕ → ℕ → ℕ → Bool
between low high b = leb low b && leb b high

unfoldable pub is_digit : ℕ → Bool
is_digit b = between 48 57 b

unfoldable pub all_digits : List ℕ → Bool
all_digits [] = true
all_digits (b ∷ w) = is_digit b && all_digits w

-- the number that the digits w say behind those that said v
unfoldable pub value_after : ℕ → List ℕ → ℕ
value_after v [] = v
value_after v (b ∷ w) = value_after (v * 10 + (b - 48)) w

-- a word of one to most decimal digits, leading zeros counted, whose value is below 2^32
unfoldable pub number_in : ℕ → List ℕ → Option ℕ
number_in most w =
    pick (ltb 0 (length w) && leb (length w) most && all_digits w && ltb (value_after 0 w) (2 ^ 32)) (Some (value_after 0 w)) None
