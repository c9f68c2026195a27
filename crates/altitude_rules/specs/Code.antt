-- The altitude code of Annex 10: what the 13 bits of AC say. The bits are, first the most significant,
-- C1 A1 C2 A2 C4 A4 M B1 Q B2 D2 B4 D4.
use Rattle.std.specs.Prelude.{ℕ, zero, suc, ◌+◌, ◌-◌, ◌*◌, ◌/◌, ◌%◌, ◌^◌, List, [], ◌∷◌, Bool, true, false, eqb, ltb, ℤ, Result, Ok, Err}
use Rattle.std.proofs.Math.IntN.{sub_ℕ}
use Rattle.lists.specs.Lists.{pick, spelled}
use Rattle.lists.specs.Checks.{Check, check}
use Rattle.refusals.specs.declared.refusal.Refusal.{Refusal}
use Rattle.refusals.specs.declared.refusal.Refusal.TheVariants as refusal
use Rattle.refusals.specs.Refusals.{number_given}
use Rattle.altitude_rules.specs.declared.code.Altitude.{Altitude}
use Rattle.altitude_rules.specs.declared.code.Altitude.TheVariants.{Feet, None, Metric}

-- ---- the bits

-- the bit at a place, the last place being 0
abbrev pub bit_at : ℕ → ℕ → ℕ
bit_at place ac = ac / 2 ^ place % 2

abbrev pub C1 : ℕ → ℕ
C1 ac = bit_at 12 ac

abbrev pub A1 : ℕ → ℕ
A1 ac = bit_at 11 ac

abbrev pub C2 : ℕ → ℕ
C2 ac = bit_at 10 ac

abbrev pub A2 : ℕ → ℕ
A2 ac = bit_at 9 ac

abbrev pub C4 : ℕ → ℕ
C4 ac = bit_at 8 ac

abbrev pub A4 : ℕ → ℕ
A4 ac = bit_at 7 ac

abbrev pub M : ℕ → ℕ
M ac = bit_at 6 ac

abbrev pub B1 : ℕ → ℕ
B1 ac = bit_at 5 ac

abbrev pub Q : ℕ → ℕ
Q ac = bit_at 4 ac

abbrev pub B2 : ℕ → ℕ
B2 ac = bit_at 3 ac

abbrev pub D2 : ℕ → ℕ
D2 ac = bit_at 2 ac

abbrev pub B4 : ℕ → ℕ
B4 ac = bit_at 1 ac

abbrev pub D4 : ℕ → ℕ
D4 ac = bit_at 0 ac

-- ---- the 25 ft form: 25 × N − 1000

-- N: the eleven bits besides M and Q
unfoldable pub eleven : ℕ → ℕ
eleven ac =
    spelled 0 (C1 ac ∷ A1 ac ∷ C2 ac ∷ A2 ac ∷ C4 ac ∷ A4 ac ∷ B1 ac ∷ B2 ac ∷ D2 ac ∷ B4 ac ∷ D4 ac ∷ [])

unfoldable pub feet_by_25 : ℕ → ℤ
feet_by_25 ac = sub_ℕ (25 * eleven ac) 1000

-- ---- the 100 ft code: 500 × n + 100 × c − 1300

-- the value of k bits in Gray code: a bit is turned where the one before it, in the value, is set
unfoldable pub gray_value : ℕ → ℕ → ℕ
gray_value zero g = 0
gray_value (suc k) g =
    let n = gray_value k (g / 2) in
    n * 2 + (n + g) % 2

-- the eight bits of the five hundreds
unfoldable pub eight : ℕ → ℕ
eight ac = spelled 0 (D2 ac ∷ D4 ac ∷ A1 ac ∷ A2 ac ∷ A4 ac ∷ B1 ac ∷ B2 ac ∷ B4 ac ∷ [])

-- n: the Gray value of D2 D4 A1 A2 A4 B1 B2 B4
unfoldable pub five_hundreds : ℕ → ℕ
five_hundreds ac = gray_value 8 (eight ac)

-- C1 C2 C4: 001, 011, 010, 110, 100 is 1 to 5; any other is no pattern of the code, here 0
abbrev pub pattern_of : ℕ → ℕ
pattern_of c =
    pick (eqb c 0b001) 1
    (pick (eqb c 0b011) 2
    (pick (eqb c 0b010) 3
    (pick (eqb c 0b110) 4
    (pick (eqb c 0b100) 5
    0))))

unfoldable pub group : ℕ → ℕ
group ac = pattern_of (spelled 0 (C1 ac ∷ C2 ac ∷ C4 ac ∷ []))

-- c: for odd n it is 6 minus that
unfoldable pub hundreds : ℕ → ℕ → ℕ
hundreds n c = pick (eqb (n % 2) 1) (6 - c) c

unfoldable pub feet_by_100 : ℕ → ℤ
feet_by_100 ac =
    sub_ℕ (500 * five_hundreds ac + 100 * hundreds (five_hundreds ac) (group ac)) 1300

-- ---- what a code says

-- how a code of 13 bits is to be read
pub data Form : Type 0 where
  all_zero : Form
  metric : Form
  by25 : Form
  by100 : Form
  illegal : Form

-- all zero is no altitude; M 1 is metric, whatever Q is; Q 1 is the 25 ft form; else the 100 ft code with its illegal patterns
unfoldable pub form_of : ℕ → Form
form_of ac =
    pick (eqb ac 0) all_zero
    (pick (eqb (M ac) 1) metric
    (pick (eqb (Q ac) 1) by25
    (pick (eqb (group ac) 0) illegal
    by100)))

abbrev pub read_as : Form → ℕ → Result Altitude Refusal
read_as all_zero ac = Ok None
read_as metric ac = Ok Metric
read_as by25 ac = Ok (Feet (feet_by_25 ac))
read_as by100 ac = Ok (Feet (feet_by_100 ac))
read_as illegal ac = Err refusal.Illegal

-- the answer for any number: one above 8191 is no AC
unfoldable pub altitude : ℕ → Result Altitude Refusal
altitude ac = pick (ltb 8191 ac) (Err refusal.Range) (read_as (form_of ac) ac)

-- ---- what is answered
-- the number given back, the feet, and the name of what has none: 0 for no altitude, 1 for metric
pub record Answer : Type 0 where
  pub number : ℕ
  pub feet : List ℤ
  pub named : List ℕ

abbrev pub feet_of : Result Altitude Refusal → List ℤ
feet_of (Ok (Feet z)) = z ∷ []
feet_of (Ok None) = []
feet_of (Ok Metric) = []
feet_of (Err r) = []

abbrev pub name_of : Result Altitude Refusal → List ℕ
name_of (Ok (Feet z)) = []
name_of (Ok None) = 0 ∷ []
name_of (Ok Metric) = 1 ∷ []
name_of (Err r) = []

abbrev pub altitude_said : Result Altitude Refusal → Answer
altitude_said a = record { number = number_given a; feet = feet_of a; named = name_of a }

unfoldable pub altitude_told : ℕ → Answer
altitude_told ac = altitude_said (altitude ac)

-- the lines that a code can meet: "a number outside its range"; "an altitude pattern that the 100 ft code does not have"
abbrev pub is_illegal : Form → Bool
is_illegal all_zero = false
is_illegal metric = false
is_illegal by25 = false
is_illegal by100 = false
is_illegal illegal = true

abbrev pub code_checks : ℕ → List Check
code_checks ac = check 2 (ltb 8191 ac) ∷ check 18 (is_illegal (form_of ac)) ∷ []
