-- `put_plan` plans with the tag of the line, and lays the entries' lines.
use Rattle.console_station.proofs.Said.{plan_said}
use Rattle.console_station.proofs.planning.put_plan.Goals as goal

pub returns : goal.returns
returns c = search plan_said
