-- A number with its sign, in decimal: as a text, and what a word says.
use Rattle.std.specs.Prelude.{ℕ, ◌+◌, ◌^◌, List, [], ◌∷◌, leb, ltb, ℤ, pos, negsuc, take, drop, Option, Some, None}
use Rattle.std.proofs.Math.IntN.{sub_ℕ}
use Rattle.lists.specs.Lists.{pick}
use Rattle.text_rules.specs.Put.{decimal}
use Rattle.text_rules.specs.Line.{same_as}
use Rattle.text_rules.specs.Number.{number_in}
use Rattle.text_rules.specs.Bases.{number_of}

-- the digits, after a minus sign where the number is below zero
unfoldable pub signed_decimal : ℤ → List ℕ
signed_decimal (pos n) = decimal n
signed_decimal (negsuc n) = 45 ∷ decimal (n + 1)

-- ---- what a word says

-- without a minus sign: up to 2,147,483,647
unfoldable pub upward : Option ℕ → Option ℤ
upward (Some n) = pick (ltb n (2 ^ 31)) (Some (pos n)) None
upward None = None

-- behind a minus sign: 0 − n, down to −2,147,483,648
unfoldable pub downward : Option ℕ → Option ℤ
downward (Some n) = pick (leb n (2 ^ 31)) (Some (sub_ℕ 0 n)) None
downward None = None

-- `-` and a decimal number of at most ten digits, or a number as `number_of` reads it
unfoldable pub integer_of : List ℕ → Option ℤ
integer_of w = pick (same_as (take 1 w) (45 ∷ [])) (downward (number_in 10 (drop 1 w))) (upward (number_of w))
