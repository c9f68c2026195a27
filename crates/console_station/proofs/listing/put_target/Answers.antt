-- `put_target` lays three numbers and the report.
use Rattle.console_station.proofs.Listed.{target_laid}
use Rattle.console_station.proofs.listing.put_target.Goals as goal

pub returns : goal.returns
returns c = search target_laid
