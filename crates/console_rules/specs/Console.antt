-- The console: what a line prints and the bench that it leaves, by its first word, and the text of a whole run.
use Rattle.std.specs.Prelude.{ℕ, ◌≤◌, ◌≡◌, Bool, true, false, List, [], ◌∷◌, ◌++◌, eqb, length, Option, Result, Ok, Err, is_some}
use Rattle.lists.specs.Lists.{pick}
use Rattle.text_rules.specs.Put.{Put}
use Rattle.text_rules.specs.Line.{lines_of, words_of}
use Rattle.station_rules.specs.State.{before_setup}
use Rattle.console_rules.specs.Texts.{word, room}
use Rattle.console_rules.specs.PlainLines.{plain_text}
use Rattle.console_rules.specs.declared.state.Bench.{Bench}
use Rattle.console_rules.specs.Aircraft.{Said, unmade, flight_said}
use Rattle.console_rules.specs.Station.{Spoken, station_spoken}
use Rattle.console_rules.specs.declared.names.Command.{Command}
use Rattle.console_rules.specs.declared.names.Command.TheVariants.{Plain, Flight, Station, Quit}
use Rattle.console_rules.specs.declared.names.Row.{Row}
use Rattle.console_rules.specs.declared.names.Reason.{Reason}
use Rattle.console_rules.specs.Names.{row_of}
use Rattle.console_rules.specs.Reasons.{too_long, is_too_long, reading, reason_text}

-- ---- what a line tells: the text that it prints, and the bench that it leaves
pub record Told : Type 0 where
  pub text : List ℕ
  pub bench : Bench

-- the text was laid at the front of a buffer, with so many bytes, and the bench is left; the text fits the buffer that the program lends
pub record Answers (t : Told) (before after : List ℕ) (left : Bench) (size : ℕ) : Type 0 where
  pub text_put : Put t.text 0 before after size
  pub bench : left ≡ t.bench
  pub short : length t.text ≤ room

-- a text, and the bench stays as it was
abbrev pub telling : List ℕ → Bench → Told
telling t b = record { text = t; bench = b }

-- what a line of the aircraft says, and the bench with the aircraft that it leaves; the station stays as it was
abbrev pub flown : Bench → Said → Told
flown b s = record { text = s.text; bench = record { aircraft = s.aircraft; station = b.station; over = b.over } }

-- what a line of the station says, and the bench with the station that it leaves; the aircraft stays as it was
abbrev pub served : Bench → Spoken → Told
served b s = record { text = s.text; bench = record { aircraft = b.aircraft; station = s.station; over = b.over } }

-- the bench of a console that was quit
abbrev pub ended : Bench → Bench
ended b = record { aircraft = b.aircraft; station = b.station; over = true }

-- ---- a line

-- what a call tells for the bench and the words of its line
unfoldable pub call_told : Command → Bench → List (List ℕ) → Told
call_told (Plain l) b ws = telling (plain_text l ws) b
call_told (Flight l) b ws = flown b (flight_said l b.aircraft ws)
call_told (Station l) b ws = served b (station_spoken l b.station ws)
call_told Quit b ws = telling [] (ended b)

-- a line that is not read says why, and leaves the bench as it was
unfoldable pub judged_told : Result Command Reason → Bench → List (List ℕ) → Told
judged_told (Ok c) b ws = call_told c b ws
judged_told (Err why) b ws = telling (reason_text why) b

unfoldable pub row_told : Option Row → Bench → List (List ℕ) → Told
row_told r b ws = judged_told (reading r (is_some b.aircraft) ws) b ws

-- the line that the first word names
unfoldable pub command_told : Bench → List (List ℕ) → Told
command_told b ws = row_told (row_of (word 0 ws)) b ws

-- the word begins with `#`
unfoldable pub comment : List ℕ → Bool
comment [] = false
comment (b ∷ w) = eqb b 35

-- a line without a word, or whose first word begins with `#`, prints nothing
unfoldable pub words_told : Bench → List (List ℕ) → Told
words_told b [] = telling [] b
words_told b (w ∷ ws) = pick (comment w) (telling [] b) (command_told b (w ∷ ws))

-- what a line tells: nothing behind `quit`; that it is too long; or what its words tell
unfoldable pub line_told : Bench → List ℕ → Told
line_told b line = pick b.over (telling [] b) (pick (is_too_long line) (telling too_long b) (words_told b (words_of line)))

-- what a line prints, and the bench that it leaves
abbrev pub line_text : Bench → List ℕ → List ℕ
line_text b line = (line_told b line).text

abbrev pub line_leaves : Bench → List ℕ → Bench
line_leaves b line = (line_told b line).bench

-- ---- a run

-- the texts of the lines, one after the other, each for the bench that the lines before it left
unfoldable pub lines_text : Bench → List (List ℕ) → List ℕ
lines_text b [] = []
lines_text b (l ∷ ls) = line_text b l ++ lines_text (line_leaves b l) ls

-- no aircraft, the station as it is before any setup, and nobody has quit
abbrev pub begun : Bench
begun = record { aircraft = unmade; station = before_setup; over = false }

-- the whole run: line after line
unfoldable pub console_text : List ℕ → List ℕ
console_text s = lines_text begun (lines_of s)
