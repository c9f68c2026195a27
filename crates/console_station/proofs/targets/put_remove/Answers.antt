-- `put_remove` hands the address to the station.
use Rattle.console_rules.specs.Station.{remove_spoken}
use Rattle.console_station.proofs.targets.put_remove.Goals as goal

pub returns : goal.returns
unfolding remove_spoken
returns c = rw (c.remove_target.ensures, c.number_at.ensures) at (c.put_outcome.ensures c.remove_target.new.s)
