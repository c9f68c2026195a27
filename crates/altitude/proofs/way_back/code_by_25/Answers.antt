-- `code_by_25` lays the bits of N at their places, tried on all of them.
use Rattle.altitude_rules.proofs.Reckoned.{code_25_is}
use Rattle.altitude.proofs.way_back.code_by_25.Goals as goal

pub returns : goal.returns
returns c = code_25_is _ c.requires
