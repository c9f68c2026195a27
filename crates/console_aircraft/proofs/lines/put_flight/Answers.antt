-- `put_flight` goes by the line.
use Rattle.console_rules.specs.Aircraft.{flight_said}
use Rattle.console_aircraft.proofs.Texts.{flight_line}
use Rattle.console_aircraft.proofs.lines.put_flight.Goals as goal

pub returns-in-Model : goal.returns-in-Model
unfolding flight_said
returns-in-Model c = search flight_line

pub returns-in-Queue : goal.returns-in-Queue
unfolding flight_said
returns-in-Queue c = search flight_line

pub returns-in-Send : goal.returns-in-Send
unfolding flight_said
returns-in-Send c = search flight_line

pub returns-in-State : goal.returns-in-State
unfolding flight_said
returns-in-State c = search flight_line
