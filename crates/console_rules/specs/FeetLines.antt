-- The lines of the program feet: for each line of its input, what it prints.
use Rattle.std.specs.Prelude.{ℕ, List, [], ◌∷◌, ◌++◌, ltb, length, Option, Some, None, Result, Ok, Err}
use Rattle.lists.specs.Lists.{pick}
use Rattle.text_rules.specs.Put.{decimal}
use Rattle.text_rules.specs.Plain.{plain}
use Rattle.text_rules.specs.Signed.{signed_decimal}
use Rattle.text_rules.specs.Line.{lines_of, words_of}
use Rattle.text_rules.specs.Run.{lines_text}
use Rattle.text_rules.specs.Number.{number_in}
use Rattle.refusals.specs.declared.refusal.Refusal.{Refusal}
use Rattle.refusals.specs.Refusals.{number_given}
use Rattle.altitude_rules.specs.declared.code.Altitude.{Altitude}
use Rattle.altitude_rules.specs.declared.code.Altitude.TheVariants as level
use Rattle.altitude_rules.specs.Code.{altitude}

-- what stands behind the answer's number, and the line's end: the feet, " none", " metric", or nothing for a refusal
unfoldable pub value_text : Result Altitude Refusal → List ℕ
value_text (Ok (level.Feet z)) = plain " " ++ (signed_decimal z ++ plain "\n")
value_text (Ok level.None) = plain " none\n"
value_text (Ok level.Metric) = plain " metric\n"
value_text (Err r) = plain "\n"

-- an answer's number and its value
unfoldable pub answer_text : Result Altitude Refusal → List ℕ
answer_text a = decimal (number_given a) ++ value_text a

-- the code and its answer
unfoldable pub code_text : ℕ → List ℕ
code_text ac = decimal ac ++ (plain " " ++ answer_text (altitude ac))

-- "- 2", for a line that is no number of one to nine digits
abbrev pub no_code : List ℕ
no_code = plain "- 2\n"

unfoldable pub number_text : Option ℕ → List ℕ
number_text (Some ac) = code_text ac
number_text None = no_code

-- a line of nothing but blanks prints nothing, a line of one word its code, any other "- 2"
unfoldable pub words_text : List (List ℕ) → List ℕ
words_text [] = []
words_text (w ∷ []) = number_text (number_in 9 w)
words_text (w ∷ v ∷ ws) = no_code

-- a line longer than 1000 bytes is not read, and prints "- 2"
unfoldable pub line_text : List ℕ → List ℕ
line_text line = pick (ltb 1000 (length line)) no_code (words_text (words_of line))

-- the whole run: line after line
unfoldable pub feet_text : List ℕ → List ℕ
feet_text s = lines_text line_text (lines_of s)
