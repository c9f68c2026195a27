-- `put_entries` lays the entries of the plan in force.
use Rattle.console_station.proofs.Listed.{entries_said}
use Rattle.console_station.proofs.entries.put_entries.Goals as goal

pub returns : goal.returns
returns c = search entries_said
