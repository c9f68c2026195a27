-- `before_setup` is the station before any setup.
use Rattle.station_rules.specs.State.{before_setup}
use Rattle.station.proofs.setting.before_setup.Goals as goal

pub returns : goal.returns
unfolding before_setup
returns c = rw (c.no_targets-held.ensures, c.no_request-waiting.ensures, c.no_entry-entries.ensures)
