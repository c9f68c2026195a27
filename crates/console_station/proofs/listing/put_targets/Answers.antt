-- `put_targets` lays the targets of the station.
use Rattle.console_station.proofs.Listed.{targets_said}
use Rattle.console_station.proofs.listing.put_targets.Goals as goal

pub returns : goal.returns
returns c = search targets_said
