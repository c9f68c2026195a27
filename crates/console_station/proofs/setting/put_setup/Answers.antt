-- `put_setup` hands the setup to the station, or refuses a number that is too wide.
use Rattle.console_station.proofs.ByWords.{was_read, not_read, setup_read}
use Rattle.console_station.proofs.setting.put_setup.Goals as goal

pub returns-in-Some : goal.returns-in-Some
returns-in-Some c =
    was_read _ _ (setup_read c.args.s.now _) _ c.in-Some.ensures (rw c.set_up.ensures at (c.put_outcome.ensures c.set_up.new.s))

pub returns-in-None : goal.returns-in-None
returns-in-None c = not_read _ _ (setup_read c.args.s.now _) c.in-None.ensures (c.put_refused.ensures c.args.s.now)
