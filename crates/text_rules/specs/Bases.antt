-- A word as a number: in decimal, or in hex behind `0x`.
use Rattle.std.specs.Prelude.{ℕ, ◌+◌, ◌*◌, List, [], ◌∷◌, ◌&&◌, leb, ltb, length, take, drop, Option, Some, None}
use Rattle.lists.specs.Lists.{pick}
use Rattle.text_rules.specs.Line.{same_as}
use Rattle.text_rules.specs.Plain.{plain}
use Rattle.text_rules.specs.Number.{number_in}
use Rattle.text_rules.specs.Hex.{hex_value, all_hex}

-- the number that the hex digits w say behind those that said v
unfoldable pub hex_after : ℕ → List ℕ → ℕ
hex_after v [] = v
hex_after v (b ∷ w) = hex_after (v * 16 + hex_value b) w

-- one to eight hex digits of either case
unfoldable pub hex_number : List ℕ → Option ℕ
hex_number w = pick (ltb 0 (length w) && leb (length w) 8 && all_hex w) (Some (hex_after 0 w)) None

-- decimal, at most ten digits and below 2^32, or `0x` and one to eight hex digits
unfoldable pub number_of : List ℕ → Option ℕ
number_of w = pick (same_as (take 2 w) (plain "0x")) (hex_number (drop 2 w)) (number_in 10 w)
