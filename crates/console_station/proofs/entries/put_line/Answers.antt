-- `put_line` lays the six numbers and the status.
use Rattle.console_station.proofs.Listed.{status_laid}
use Rattle.console_station.proofs.entries.put_line.Goals as goal

pub returns : goal.returns
returns c = search status_laid
