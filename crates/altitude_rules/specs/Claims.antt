-- What is claimed of all 8,192 codes together and of the way back; proofs/Census.antt, proofs/Hundreds.antt and proofs/WayBack.antt have the proofs.
use Rattle.std.specs.Prelude.{ℕ, suc, ◌*◌, ◌<◌, ◌≡◌, [], ◌∷◌, false, not, eqb, ℤ, Ok}
use Rattle.std.proofs.Math.IntN.{sub_ℕ}
use Rattle.lists.specs.Lists.{count_below}
use Rattle.lists.specs.Answers.{done}
use Rattle.altitude_rules.specs.Code.{Form, bit_at, form_of, feet_by_25, feet_by_100, altitude}
use Rattle.altitude_rules.specs.Code.Form.{all_zero, metric, by25, by100, illegal}
use Rattle.altitude_rules.specs.WayBack.{raised, reaches25, way_back}
use Rattle.altitude_rules.specs.declared.code.Altitude.TheVariants.{Feet}

-- the forms, told apart by a number for each
abbrev pub nth : Form → ℕ
nth all_zero = 0
nth metric = 1
nth by25 = 2
nth by100 = 3
nth illegal = 4

-- how many of the 8,192 codes are read in a form
abbrev pub codes_of : Form → ℕ
codes_of f = count_below (λ ac. eqb (nth (form_of ac)) (nth f)) 8192

-- one code is no altitude, 4,096 are metric, 2,048 are read by 25 ft, 1,280 by 100 ft, and 767 are illegal
unfoldable pub Census : Type 0
Census =
    codes_of all_zero ∷ codes_of metric ∷ codes_of by25 ∷ codes_of by100 ∷ codes_of illegal ∷ []
    ≡ 1 ∷ 4096 ∷ 2048 ∷ 1280 ∷ 767 ∷ []

-- in how many of the 13 bits two codes differ
unfoldable pub differing : ℕ → ℕ → ℕ
differing a b = count_below (λ place. not (eqb (bit_at place a) (bit_at place b))) 13

-- in the 100 ft code ac says −1200 and k hundreds
pub record Says (ac k : ℕ) : Type 0 where
  pub short : ac < 8192
  pub form : form_of ac ≡ by100
  pub feet : feet_by_100 ac ≡ sub_ℕ (100 * k) 1200

-- the 100 ft code gives every hundred from −1200 to 126,700 exactly once, and no other altitude;
-- codes of neighbouring hundreds differ in one bit
pub record HundredFootCode : Type 0 where
  pub each : (k : ℕ) → k < 1280 → (ac : ℕ) × Says ac k
  pub once : (a b k : ℕ) → Says a k → Says b k → a ≡ b
  pub none_else : (ac : ℕ) → ac < 8192 → form_of ac ≡ by100 → (k : ℕ) × (k < 1280) × Says ac k
  pub one_bit : (a b k : ℕ) → Says a k → Says b (suc k) → differing a b ≡ 1

-- ---- the way back

-- the way back gives these feet this code
abbrev pub Writes : ℤ → ℕ → Type 0
Writes feet ac = way_back feet ≡ done (ac ∷ [])

-- this code reads as these feet
abbrev pub Reads : ℕ → ℤ → Type 0
Reads ac feet = altitude ac ≡ Ok (Feet feet)

-- of a code that is read by 100 ft: the way back gives its feet a code that reads as the same feet, and that very code exactly where the 25 ft form
-- does not reach
pub record Back100 (ac : ℕ) : Type 0 where
  pub code : ℕ
  pub written : Writes (feet_by_100 ac) code
  pub same_feet : Reads code (feet_by_100 ac)
  pub very_code : reaches25 (raised (feet_by_100 ac)) ≡ false → code ≡ ac
  pub only_there : code ≡ ac → reaches25 (raised (feet_by_100 ac)) ≡ false

pub record ThereAndBack : Type 0 where
  -- "reading what the way back writes gives the same feet"
  pub reads_back : (feet : ℤ) (ac : ℕ) → Writes feet ac → Reads ac feet
  -- 19 exactly if none of the 8,192 codes reads as those feet
  pub none_reads : (feet : ℤ) → (way_back feet).number ≡ 19 → (ac : ℕ) → ac < 8192 → Reads ac feet → ⊥
  pub no_code : (feet : ℤ) → ((ac : ℕ) → ac < 8192 → Reads ac feet → ⊥) → (way_back feet).number ≡ 19
  -- of a code that is read by 25 ft that very code
  pub by_25 : (ac : ℕ) → ac < 8192 → form_of ac ≡ by25 → Writes (feet_by_25 ac) ac
  pub by_100 : (ac : ℕ) → ac < 8192 → form_of ac ≡ by100 → Back100 ac
  -- no two altitudes share a code
  pub not_shared : (a b : ℤ) (ac : ℕ) → Writes a ac → Writes b ac → a ≡ b
