-- The lines of the console: the name of each, its call, and what its words are.
use Rattle.std.specs.Prelude.{ℕ, true, false, List, [], ◌∷◌, Option, Some, None}
use Prim.Native.String.{String}
use Rattle.lists.specs.Lists.{pick}
use Rattle.text_rules.specs.Line.{same_as}
use Rattle.text_rules.specs.Plain.{plain}
use Rattle.console_rules.specs.declared.names.PlainLine.{PlainLine}
use Rattle.console_rules.specs.declared.names.PlainLine.TheVariants as plain_line
use Rattle.console_rules.specs.declared.names.FlightLine.{FlightLine}
use Rattle.console_rules.specs.declared.names.FlightLine.TheVariants as flight_line
use Rattle.console_rules.specs.declared.names.StationLine.{StationLine}
use Rattle.console_rules.specs.declared.names.StationLine.TheVariants as station_line
use Rattle.console_rules.specs.declared.names.Command.{Command}
use Rattle.console_rules.specs.declared.names.Command.TheVariants.{Plain, Flight, Station, Quit}
use Rattle.console_rules.specs.declared.names.Row.{Row}

-- a line's name, and what the line is made of
pub record Named : Type 0 where
  pub name : List ℕ
  pub row : Row

-- a line by its name and its call, with how many words stand behind the name, and the places of those that are bytes, counted from 1, 0 for none: all others
-- are numbers without a sign
abbrev pub line : String → Command → ℕ → ℕ → ℕ → Named
line name c words bytes more =
    record { name = plain name; row = record { command = c; words = words; bytes = bytes; more = more; sign = 0; aircraft = false } }

-- one without a state, one of the station, and one of the aircraft, which needs an aircraft
abbrev pub simple : String → PlainLine → ℕ → ℕ → ℕ → Named
simple name l words bytes more = line name (Plain l) words bytes more

abbrev pub service : String → StationLine → ℕ → ℕ → ℕ → Named
service name l words bytes more = line name (Station l) words bytes more

abbrev pub flight : String → FlightLine → ℕ → ℕ → Named
flight name l words bytes =
    record { name = plain name; row = record { command = Flight l; words = words; bytes = bytes; more = 0; sign = 0; aircraft = true } }

-- one of a single word, a number that may have a minus sign
abbrev pub signed : String → PlainLine → Named
signed name l = record { name = plain name; row = record { command = Plain l; words = 1; bytes = 0; more = 0; sign = 1; aircraft = false } }

-- the lines
unfoldable pub table : List Named
table =
    simple "remainder" plain_line.Remainder 1 1 0 ∷
    simple "overlay" plain_line.Overlay 1 0 0 ∷
    simple "correct" plain_line.Correct 4 1 2 ∷
    simple "build" plain_line.Build 7 6 0 ∷
    simple "allcall" plain_line.AllCall 3 0 0 ∷
    simple "up" plain_line.Up 1 1 0 ∷
    simple "down" plain_line.Down 1 1 0 ∷
    simple "code" plain_line.Code 4 1 0 ∷
    simple "feet" plain_line.Feet 1 0 0 ∷
    signed "ac" plain_line.Ac ∷
    line "model" (Flight flight_line.Model) 5 0 0 ∷
    flight "queue" flight_line.Queue 1 1 ∷
    flight "send" flight_line.Send 3 3 ∷
    flight "state" flight_line.State 0 0 ∷
    service "setup" station_line.Setup 19 0 0 ∷
    service "target" station_line.Target 3 0 0 ∷
    service "remove" station_line.Remove 1 0 0 ∷
    service "move" station_line.Move 3 0 0 ∷
    service "request" station_line.Request 8 8 0 ∷
    service "plan" station_line.Plan 1 0 0 ∷
    service "reply" station_line.Reply 4 3 4 ∷
    service "report" station_line.Report 1 0 0 ∷
    service "targets" station_line.Targets 0 0 0 ∷
    service "entries" station_line.Entries 0 0 0 ∷
    simple "explain" plain_line.Explain 1 0 0 ∷
    line "quit" Quit 0 0 0 ∷
    simple "help" plain_line.Help 0 0 0 ∷ []

-- the line that a word names, by the first of the rows with that name
unfoldable pub row_in : List ℕ → List Named → Option Row
row_in w [] = None
row_in w (n ∷ ns) = pick (same_as w n.name) (Some n.row) (row_in w ns)

unfoldable pub row_of : List ℕ → Option Row
row_of w = row_in w table
