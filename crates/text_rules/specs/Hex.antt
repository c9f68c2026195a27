-- Bytes in hex: made in upper case, and read in either.
use Rattle.std.specs.Prelude.{ℕ, zero, suc, ◌+◌, ◌-◌, ◌*◌, ◌/◌, ◌%◌, ◌≡◌, List, [], ◌∷◌, ◌++◌, Bool, true, ◌&&◌, leb, ltb, eqb, length}
use Rattle.std.specs.Prelude.{Option, Some, None, option_map}
use Rattle.lists.specs.Lists.{pick}
use Rattle.text_rules.specs.Put.{laid}
use Rattle.text_rules.specs.Line.{same_as}
use Rattle.text_rules.specs.Number.{between, is_digit}

-- ---- made

-- the digit that counts d: `0` to `9`, then `A` to `F`
unfoldable pub hex_digit : ℕ → ℕ
hex_digit d = pick (ltb d 10) (48 + d) (55 + d)

-- the k low digits of n
unfoldable pub hex_in : ℕ → ℕ → List ℕ
hex_in zero n = []
hex_in (suc k) n = hex_in k (n / 16) ++ (hex_digit (n % 16) ∷ [])

-- two digits for each byte
unfoldable pub hex_of : List ℕ → List ℕ
hex_of [] = []
hex_of (b ∷ bs) = hex_in 2 b ++ hex_of bs

-- a lower-case letter as upper case, and a digit as it is
unfoldable pub upper_of : ℕ → ℕ
upper_of b = pick (ltb b 97) b (b - 32)

-- ---- read

-- what a digit of either case counts; 16 for any other byte
unfoldable pub hex_value : ℕ → ℕ
hex_value b =
    pick (is_digit b) (b - 48) (pick (between 65 70 b) (b - 55) (pick (between 97 102 b) (b - 87) 16))

unfoldable pub all_hex : List ℕ → Bool
all_hex [] = true
all_hex (b ∷ w) = ltb (hex_value b) 16 && all_hex w

-- the bytes that digits say, two each
unfoldable pub pairs : List ℕ → List ℕ
pairs [] = []
pairs (a ∷ []) = []
pairs (a ∷ b ∷ w) = (hex_value a * 16 + hex_value b) ∷ pairs w

-- digits for 1 to 32 bytes
unfoldable pub is_hex : List ℕ → Bool
is_hex w = ltb 0 (length w) && leb (length w) 64 && eqb (length w % 2) 0 && all_hex w

-- the bytes that a word says, and `-` for none
unfoldable pub bytes_in : List ℕ → Option (List ℕ)
bytes_in w = pick (same_as w (45 ∷ [])) (Some []) (pick (is_hex w) (Some (pairs w)) None)

-- the bytes at the front of the buffer; where there are none, the buffer as it was
unfoldable pub filled : Option (List ℕ) → List ℕ → List ℕ
filled (Some bs) l = laid bs 0 l
filled None l = l

-- a call read the word w, answered how many bytes it says, and laid them at the buffer's front
pub record HexRead (w before after : List ℕ) (r : Option ℕ) : Type 0 where
  pub answer : r ≡ option_map length (bytes_in w)
  pub buffer : after ≡ filled (bytes_in w) before
