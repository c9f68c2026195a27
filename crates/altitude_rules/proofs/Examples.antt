-- Codes beside what they say and feet beside their codes, computed: those at the edges of each form, by the table of an outside decoder, and a number above
-- 13 bits.
use mathlib.Core.Path.{◌≡◌, refl}
use mathlib.Core.List.{List, [], ◌∷◌, map}
use Prim.Native.Nat.{ℕ}
use lib.IntN.{ℤ, pos, negsuc, sub_ℕ}
use lib.ListN.{replicate}
use Rattle.lists.specs.Checks.{checked}
use Rattle.lists.specs.Answers.{Answer, done, refusal}
use Rattle.altitude_rules.specs.WayBack.{raised, reaches, code_by_25, code_of_bits, code_by_100, code_at, way_back}
use Rattle.std.specs.Prelude.{Result, Ok, Err}
use Rattle.refusals.specs.declared.refusal.Refusal.{Refusal}
use Rattle.refusals.specs.declared.refusal.Refusal.TheVariants as refusal
use Rattle.refusals.specs.Refusals.{number_given}
use Rattle.altitude_rules.specs.declared.code.Altitude.{Altitude}
use Rattle.altitude_rules.specs.declared.code.Altitude.TheVariants.{Feet, None, Metric}
use Rattle.altitude_rules.specs.Code.{eleven, feet_by_25, gray_value, eight, five_hundreds, group, hundreds, feet_by_100, form_of, altitude}

abbrev says : List ℕ → List (Result Altitude Refusal)
says codes = map altitude codes

-- no altitude; metric, with Q 0 and with Q 1; patterns that the 100 ft code does not have; 14 bits
not_feet : says (0 ∷ 64 ∷ 80 ∷ 1 ∷ 4352 ∷ 8192 ∷ []) ≡ Ok None ∷ Ok Metric ∷ Ok Metric ∷ Err refusal.Illegal ∷ Err refusal.Illegal ∷ Err refusal.Range ∷ []
unfolding eleven feet_by_25 gray_value eight five_hundreds group hundreds feet_by_100 form_of altitude
not_feet = refl

-- by 25 ft, from −1000 ft on
by_25 : says (16 ∷ 5912 ∷ 8127 ∷ []) ≡ Ok (Feet (negsuc 999)) ∷ Ok (Feet (pos 36000)) ∷ Ok (Feet (pos 50175)) ∷ []
unfolding eleven feet_by_25 gray_value eight five_hundreds group hundreds feet_by_100 form_of altitude
by_25 = refl

-- by 100 ft: C1 C2 C4 010 and 100, an odd n, where the hundreds run back, and D2 alone
by_100 : says (1024 ∷ 4096 ∷ 258 ∷ 260 ∷ []) ≡ Ok (Feet (negsuc 999)) ∷ Ok (Feet (negsuc 799)) ∷ Ok (Feet (negsuc 299)) ∷ Ok (Feet (pos 126700)) ∷ []
unfolding eleven feet_by_25 gray_value eight five_hundreds group hundreds feet_by_100 form_of altitude
by_100 = refl

-- the number of each answer
numbers : map number_given (Ok (Feet (pos 0)) ∷ Ok None ∷ Ok Metric ∷ Err refusal.Range ∷ Err refusal.Illegal ∷ []) ≡ 0 ∷ 0 ∷ 0 ∷ 2 ∷ 18 ∷ []
numbers = refl

-- ---- the way back: the number and the code of each altitude

abbrev written : List ℤ → List Answer
written feet = map way_back feet

abbrev below : ℕ → ℤ
below n = sub_ℕ 0 n

-- the 25 ft form: from −1000 to 50,175, no step of 25 left out, and nothing rounded to one
back-by-25 :
    written (below 1000 ∷ below 975 ∷ pos 0 ∷ pos 25 ∷ pos 36000 ∷ pos 50150 ∷ pos 50175 ∷ [])
    ≡ done (16 ∷ []) ∷ done (17 ∷ []) ∷ done (152 ∷ []) ∷ done (153 ∷ []) ∷ done (5912 ∷ []) ∷ done (8126 ∷ []) ∷ done (8127 ∷ []) ∷ []
unfolding raised reaches code_by_25 code_at way_back checked
back-by-25 = refl

-- the 100 ft code: below and above, with an even and with an odd n
back-by-100 :
    written (below 1200 ∷ below 1100 ∷ pos 50200 ∷ pos 50300 ∷ pos 126600 ∷ pos 126700 ∷ [])
    ≡ done (256 ∷ []) ∷ done (1280 ∷ []) ∷ done (4643 ∷ []) ∷ done (4641 ∷ []) ∷ done (1284 ∷ []) ∷ done (260 ∷ []) ∷ []
unfolding raised reaches hundreds code_by_25 code_of_bits code_by_100 code_at way_back checked
back-by-100 = refl

-- no code: below both, between −1100 and −1000, one foot off, a step of 25 above 50,175, above both, and the least of 32 bits
no_code :
    written
    (below 1201 ∷ below 1300 ∷ below 1025 ∷ below 999 ∷ pos 1 ∷ pos 24 ∷ pos 50176 ∷ pos 50225 ∷ pos 126701 ∷ pos 126800 ∷ below 2147483648 ∷ [])
    ≡ replicate 11 (refusal 19)
unfolding raised reaches way_back checked
no_code = refl
