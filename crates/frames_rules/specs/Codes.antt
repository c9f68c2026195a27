-- Codes: whose code a DF 11 carries, for a station.
use Rattle.std.specs.Prelude.{ℕ, Bool, ◌&&◌, not, List, [], ◌∷◌, eqb, leb, length}
use Rattle.lists.specs.Lists.{pick}
use Rattle.lists.specs.Checks.{Check, check, checked}
use Rattle.lists.specs.Answers.{Answer, done, refused_by}
use Rattle.parity_rules.specs.Messages.{bits, seven_or_fourteen}
use Rattle.parity_rules.specs.Division.{remainder_of}
use Rattle.frames_rules.specs.Answers.{own, matching_ii, other}
use Rattle.frames_rules.specs.Reading.{format_of}
use Rattle.frames_rules.specs.Shared.{code_number, of_si}

-- CL 0 to 7, IC 0 to 15, and a permission of 0 or 1
abbrev pub station_ranged : ℕ → ℕ → ℕ → Bool
station_ranged cl ic permit = leb cl 7 && leb ic 15 && leb permit 1

-- "an SI station, CL 1 to 4, that permits it, overlay = own IC field with CL 0, and not zero"
abbrev pub matches : ℕ → ℕ → ℕ → ℕ → Bool
matches remainder cl ic permit = eqb permit 1 && of_si cl && eqb remainder (code_number 0 ic) && not (eqb remainder 0)

-- "own code; matching II; or other"
unfoldable pub whose : ℕ → ℕ → ℕ → ℕ → List ℕ
whose remainder cl ic permit =
    pick (eqb remainder (code_number cl ic)) own (pick (matches remainder cl ic permit) matching_ii other)

-- 1: a message not of 7 or 14 bytes; 2: the station's numbers; 14: not a DF 11 of 7 bytes
unfoldable pub code_of_checks : List ℕ → ℕ → ℕ → ℕ → List Check
code_of_checks m cl ic permit =
    check 1 (not (seven_or_fourteen (length m)))
    ∷ check 2 (not (station_ranged cl ic permit))
    ∷ check 14 (not (eqb (length m) 7 && eqb (format_of m) 11))
    ∷ []

unfoldable pub code_of : List ℕ → ℕ → ℕ → ℕ → Answer
unfolding code_of_checks
code_of m cl ic permit = checked (code_of_checks m cl ic permit) refused_by (done (whose (remainder_of (bits m)) cl ic permit))
