-- The way back: the code of an altitude in feet, the 25 ft form where it reaches, else the 100 ft code. It never rounds.
use Rattle.std.specs.Prelude.{ℕ, ◌+◌, ◌-◌, ◌/◌, ◌%◌, List, [], ◌∷◌, Bool, not, ◌&&◌, ◌||◌, eqb, leb, ℤ, pos, negsuc, get_or, Result, Ok, Err}
use Rattle.std.specs.Int.Bits.{bit_xor}
use Rattle.lists.specs.Lists.{pick, spelled}
use Rattle.lists.specs.Checks.{Check, check, checked}
use Rattle.lists.specs.Answers.{Answer, done, refused_by}
use Rattle.altitude_rules.specs.Code.{bit_at, hundreds}
use Rattle.refusals.specs.declared.refusal.Refusal.{Refusal}
use Rattle.refusals.specs.Refusals.{number_given}

-- ---- how far each form reaches

-- feet counted from −1300 ft up, where the 100 ft code counts from; 0 for −1300 ft and every altitude below
unfoldable pub raised : ℤ → ℕ
raised (pos n) = n + 1300
raised (negsuc n) = 1300 - (n + 1)

-- a multiple of step from low to high; 1300 is one of 25 and of 100
unfoldable pub reaches : ℕ → ℕ → ℕ → ℕ → Bool
reaches step low high up = eqb (up % step) 0 && (leb low up && leb up high)

-- each multiple of 25 from −1000 to 50,175
abbrev pub reaches25 : ℕ → Bool
reaches25 up = reaches 25 (1300 - 1000) (1300 + 50175) up

-- each hundred from −1200 to 126,700
abbrev pub reaches100 : ℕ → Bool
reaches100 up = reaches 100 (1300 - 1200) (1300 + 126700) up

-- ---- the 25 ft form: feet are 25 × N − 1000

-- M 0, Q 1, and the bits of N at the eleven other places
unfoldable pub code_by_25 : ℕ → ℕ
code_by_25 n =
    spelled 0
    (bit_at 10 n ∷ bit_at 9 n ∷ bit_at 8 n ∷ bit_at 7 n ∷ bit_at 6 n ∷ bit_at 5 n ∷ 0 ∷ bit_at 4 n ∷ 1 ∷ bit_at 3 n ∷ bit_at 2 n ∷ bit_at 1 n ∷ bit_at 0 n ∷ [])

-- ---- the 100 ft code: feet are 500 × n + 100 × c − 1300, c from 1 to 5

-- n in Gray code: a bit is turned where the one before it is set
abbrev pub gray_code : ℕ → ℕ
gray_code n = bit_xor n (n / 2)

-- C1 C2 C4 of 1 to 5
abbrev pub group_bits : ℕ → ℕ
group_bits c = get_or (0b000 ∷ 0b001 ∷ 0b011 ∷ 0b010 ∷ 0b110 ∷ 0b100 ∷ []) c 0

-- M 0, Q 0, the eight bits g at D2 D4 A1 A2 A4 B1 B2 B4, and the three bits p at C1 C2 C4
unfoldable pub code_of_bits : ℕ → ℕ → ℕ
code_of_bits g p =
    spelled 0
    (bit_at 2 p ∷ bit_at 5 g ∷ bit_at 1 p ∷ bit_at 4 g ∷ bit_at 0 p ∷ bit_at 3 g ∷ 0 ∷ bit_at 2 g ∷ 0 ∷ bit_at 1 g ∷ bit_at 7 g ∷ bit_at 0 g ∷ bit_at 6 g ∷ [])

-- the code of −1200 ft and k hundreds: n is k / 5, c is k % 5 + 1, and for odd n the pattern is that of 6 − c
unfoldable pub code_by_100 : ℕ → ℕ
code_by_100 k =
    let n = k / 5 in
    code_of_bits (gray_code n) (group_bits (hundreds n (k % 5 + 1)))

-- ---- the way back

-- "the 25 ft form where it reaches, else the 100 ft code"
unfoldable pub code_at : ℕ → ℕ
code_at up = pick (reaches25 up) (code_by_25 ((up - (1300 - 1000)) / 25)) (code_by_100 ((up - (1300 - 1200)) / 100))

-- 19: "altitude with no code"
unfoldable pub way_back_checks : ℤ → List Check
way_back_checks feet = check 19 (not (reaches25 (raised feet) || reaches100 (raised feet))) ∷ []

-- what is answered for any number of feet
unfoldable pub way_back : ℤ → Answer
unfolding way_back_checks
way_back feet = checked (way_back_checks feet) refused_by (done (code_at (raised feet) ∷ []))

-- the number given back, and the code beside it
abbrev pub code_in : Result ℕ Refusal → List ℕ
code_in (Ok ac) = ac ∷ []
code_in (Err r) = []

abbrev pub written_said : Result ℕ Refusal → Answer
written_said w = record { number = number_given w; values = code_in w }
