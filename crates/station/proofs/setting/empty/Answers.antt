-- `station::setting::empty` keeps the slots and counts none of them.
use Rattle.std.proofs.Common.{rules}
use Rattle.station_rules.specs.State.{emptied}
use Rattle.station.proofs.setting.empty.Goals as goal

pub returns : goal.returns
unfolding emptied
returns c = search rules
