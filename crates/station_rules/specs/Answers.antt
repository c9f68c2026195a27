-- What the calls of a station are answered: a number with what stands beside it, as the definitions say it and as the code gives it.
use Rattle.std.specs.Prelude.{ℕ, Option, None, Result, Ok, Err, ℤ, pos}
use Rattle.refusals.specs.declared.refusal.Refusal.{Refusal}
use Rattle.refusals.specs.Refusals.{number_of, number_given}
use Rattle.station_rules.specs.declared.state.Heard.{Heard}
use Rattle.station_rules.specs.declared.state.Reported.{Reported}
use Rattle.station_rules.specs.declared.state.Taken.{Taken}
use Rattle.station_rules.specs.declared.state.Station.{Station}

-- the number that a call is given, and the station afterwards
pub record Outcome : Type 0 where
  pub number : ℕ
  pub station : Station

-- what a report is answered
pub record Report : Type 0 where
  pub number : ℕ
  pub ac : Option Heard
  pub id : Option Heard

-- what a reply is answered: its number, the flips, the measured delay, and the station afterwards
pub record Reply : Type 0 where
  pub number : ℕ
  pub flips : ℕ
  pub delay : ℤ
  pub station : Station

-- ---- as the code answers: done with what it tells, or why not; the station is the one that was lent
abbrev pub outcome : {A : Type 0} → Result A Refusal → Station → Outcome
outcome r s = record { number = number_given r; station = s }

-- "a refusal returns its number alone"
abbrev pub reported_as : Result Reported Refusal → Report
reported_as (Ok t) = record { number = 0; ac = t.ac; id = t.id }
reported_as (Err r) = record { number = number_of r; ac = None; id = None }

abbrev pub reply_as : Result Taken Refusal → Station → Reply
reply_as (Ok t) s = record { number = 0; flips = t.flips; delay = t.delay; station = s }
reply_as (Err r) s = record { number = number_of r; flips = 0; delay = pos 0; station = s }
