-- The lines of frames: `up HEX`, `down HEX`, `code HEX CL IC PERMIT`.
use Rattle.std.specs.Prelude.{ℕ, List, [], ◌∷◌, ◌++◌, eqb, length, get_or, take}
use Rattle.lists.specs.Lists.{pick}
use Rattle.text_rules.specs.Put.{decimal}
use Rattle.text_rules.specs.Plain.{plain}
use Rattle.text_rules.specs.Hex.{hex_in, hex_of}
use Rattle.text_rules.specs.Line.{same_as}
use Rattle.lists.specs.Answers.{Answer}
use Rattle.frames_rules.specs.Answers.{own, matching_ii}
use Rattle.frames_rules.specs.Formats.{long_format}
use Rattle.frames_rules.specs.Reading.{read_up, read_down, mb_part}
use Rattle.frames_rules.specs.Codes.{code_of}
use Rattle.console_rules.specs.Texts.{number_at, bytes_at, answer_text}

-- ---- a frame that is read

-- a number in decimal, with a space behind it
unfoldable pub number_text : ℕ → List ℕ
number_text n = decimal n ++ plain " "

-- the fields in decimal, and the remainder, the last of them, in six digits
unfoldable pub fields_text : List ℕ → List ℕ
fields_text [] = []
fields_text (r ∷ []) = hex_in 6 r
fields_text (n ∷ m ∷ ns) = number_text n ++ fields_text (m ∷ ns)

-- the remainder, with MA or MB as bytes before it for the formats 20 and 21
unfoldable pub end_text : ℕ → List ℕ → ℕ → List ℕ
end_text f part r = pick (long_format f) (hex_of part ++ (plain " " ++ hex_in 6 r)) (hex_in 6 r)

-- numbers in decimal, and what follows them
unfoldable pub numbers_text : List ℕ → List ℕ → List ℕ
numbers_text [] rest = rest
numbers_text (n ∷ ns) rest = number_text n ++ numbers_text ns rest

-- the values of format 4, 5, 20 or 21, which are seven, of which the sixth, MA or MB, is printed as bytes; or those of format 11
unfoldable pub values_text : List ℕ → List ℕ → List ℕ
values_text vs part =
    pick (eqb (length vs) 7) (numbers_text (take 5 vs) (end_text (get_or vs 0 0) part (get_or vs 6 0))) (fields_text vs)

-- an answer of reading, with MA or MB as bytes
unfoldable pub read_text : Answer → List ℕ → List ℕ
read_text a part = answer_text a.number (values_text a.values part)

-- a reply
unfoldable pub reply_text : List ℕ → List ℕ
reply_text msg = read_text (read_down msg) (mb_part msg)

-- an interrogation, whose MA stands at the same bits as MB
unfoldable pub interrogation_text : List ℕ → List ℕ
interrogation_text msg = read_text (read_up msg) (mb_part msg)

unfoldable pub up_text : List (List ℕ) → List ℕ
up_text ws = interrogation_text (bytes_at 1 ws)

unfoldable pub down_text : List (List ℕ) → List ℕ
down_text ws = reply_text (bytes_at 1 ws)

-- ---- whose code a reply carries

-- `own`, `matching` or `other`
unfoldable pub code_word : List ℕ → List ℕ
code_word vs = pick (same_as vs own) (plain "own") (pick (same_as vs matching_ii) (plain "matching") (plain "other"))

unfoldable pub whose_text : Answer → List ℕ
whose_text a = answer_text a.number (code_word a.values)

unfoldable pub code_text : List (List ℕ) → List ℕ
code_text ws = whose_text (code_of (bytes_at 1 ws) (number_at 2 ws) (number_at 3 ws) (number_at 4 ws))
