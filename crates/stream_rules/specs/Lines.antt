-- The lines that records print: decimal numbers parted by single spaces, each line ended by a newline.
use Rattle.std.specs.Prelude.{ℕ, suc, List, [], ◌∷◌, ◌++◌, map, ℤ, Option, Some, None}
use Rattle.text_rules.specs.Put.{decimal}
use Rattle.text_rules.specs.Signed.{signed_decimal}
use Rattle.planner_rules.specs.declared.entry.Entry.{Entry}
use Rattle.planner_rules.specs.Exchange.{listens}
use Rattle.station_rules.specs.declared.state.Heard.{Heard}

-- a word and the byte behind it
abbrev pub followed : List ℕ → ℕ → List ℕ
followed w b = w ++ (b ∷ [])

-- words parted by single spaces (32), and the newline (10)
unfoldable pub line : List (List ℕ) → List ℕ
line [] = 10 ∷ []
line (w ∷ []) = followed w 10
line (w ∷ v ∷ ws) = followed w 32 ++ line (v ∷ ws)

-- words, each with a space behind it
unfoldable pub spaced : List (List ℕ) → List ℕ
spaced [] = []
spaced (w ∷ ws) = followed w 32 ++ spaced ws

-- number, kind, answer
unfoldable pub answer_line : ℕ → ℕ → ℕ → List ℕ
answer_line n kind answer = line (decimal n ∷ decimal kind ∷ decimal answer ∷ [])

-- a taken reply adds flips and delay, and "the places, rising, after the delay"
unfoldable pub reply_line : ℕ → ℕ → ℕ → ℤ → List ℕ → List ℕ
reply_line n kind flips delay places =
    line (decimal n ∷ decimal kind ∷ decimal 0 ∷ decimal flips ∷ signed_decimal delay ∷ map decimal places)

-- entry, unit, address, start, window start, window end
abbrev pub entry_words : ℕ → Entry → List (List ℕ)
entry_words k e =
    decimal k
    ∷ decimal e.ask.request.unit
    ∷ decimal e.ask.request.address
    ∷ decimal e.start
    ∷ decimal (listens e).lo
    ∷ decimal (listens e).hi
    ∷ []

unfoldable pub entry_line : ℕ → Entry → List ℕ
entry_line k e = line (entry_words k e)

-- the entries from number k on, a line each
unfoldable pub entry_lines : ℕ → List Entry → List ℕ
entry_lines k [] = []
entry_lines k (e ∷ es) = entry_line k e ++ entry_lines (suc k) es

-- AC or ID, and "-" (45) where it was never heard
unfoldable pub value_word : Option Heard → List ℕ
value_word None = 45 ∷ []
value_word (Some h) = decimal h.value

-- its age, and "-" where it was never heard
unfoldable pub age_word : Option Heard → List ℕ
age_word None = 45 ∷ []
age_word (Some h) = decimal h.age

-- AC, its age, ID, its age
unfoldable pub report_line : Option Heard → Option Heard → List ℕ
report_line ac id = line (value_word ac ∷ age_word ac ∷ value_word id ∷ age_word id ∷ [])
