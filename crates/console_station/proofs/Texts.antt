-- What the lines of the station say, from what was laid and what was read of their words.
use Prim.Native.Nat.{ℕ, ◌≤◌, ◌<◌}
use native.Mathlib.Omega.{arith}
use mathlib.Core.Path.{◌≡◌, refl}
use mathlib.Core.List.{List}
use lib.ListN.{length}
use Rattle.text_rules.specs.Put.{Put}
use Rattle.station_rules.specs.declared.state.Station.{Station}
use Rattle.console_rules.specs.declared.names.StationLine.{StationLine}
use Rattle.console_rules.specs.Texts.{refusal_text, room}
use Rattle.console_rules.proofs.ShortAircraft.{refusal_fits}
use Rattle.console_rules.specs.Station.{Spoke, speaking, number_spoken, station_spoken}

-- a text that fits was laid, and the station is this one
pub speaks : {t : List ℕ} {s : Station} {size : ℕ} {l m : List ℕ} → Put t 0 l m size → length t ≤ room
    → Spoke (speaking t s) l m s size
speaks p h = record { text_put = p; station = refl; short = h }

-- a number of eight bits was laid
pub speaks_number : (n : ℕ) {s : Station} {size : ℕ} {l m : List ℕ} → Put (refusal_text n) 0 l m size → n < 256
    → Spoke (number_spoken n s) l m s size
speaks_number n p h = speaks p (omega (arith, refusal_fits n h))

-- what a line says, by the line that it is
pub station_line : (s : Station) (ws : List (List ℕ)) {c d : StationLine} {l m : List ℕ} {q : Station} {r : ℕ} → c ≡ d → Spoke (station_spoken d s ws) l m q r
    → Spoke (station_spoken c s ws) l m q r
station_line s ws e p = rw e p
