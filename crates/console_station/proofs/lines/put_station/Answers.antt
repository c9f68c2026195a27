-- `put_station` goes by the line.
use Rattle.console_rules.specs.Station.{station_spoken}
use Rattle.console_station.proofs.Texts.{station_line}
use Rattle.console_station.proofs.lines.put_station.Goals as goal

pub returns-in-Setup : goal.returns-in-Setup
unfolding station_spoken
returns-in-Setup c = search station_line

pub returns-in-Target : goal.returns-in-Target
unfolding station_spoken
returns-in-Target c = search station_line

pub returns-in-Remove : goal.returns-in-Remove
unfolding station_spoken
returns-in-Remove c = search station_line

pub returns-in-Move : goal.returns-in-Move
unfolding station_spoken
returns-in-Move c = search station_line

pub returns-in-Request : goal.returns-in-Request
unfolding station_spoken
returns-in-Request c = search station_line

pub returns-in-Plan : goal.returns-in-Plan
unfolding station_spoken
returns-in-Plan c = search station_line

pub returns-in-Reply : goal.returns-in-Reply
unfolding station_spoken
returns-in-Reply c = search station_line

pub returns-in-Report : goal.returns-in-Report
unfolding station_spoken
returns-in-Report c = search station_line

pub returns-in-Targets : goal.returns-in-Targets
unfolding station_spoken
returns-in-Targets c = search station_line

pub returns-in-Entries : goal.returns-in-Entries
unfolding station_spoken
returns-in-Entries c = search station_line
