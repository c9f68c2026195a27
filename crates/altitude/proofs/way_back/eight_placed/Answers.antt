-- `eight_placed` lays each of the eight bits at its place.
use Rattle.altitude_rules.proofs.Reckoned.{eight_placed, eight_placed_lt}
use Rattle.altitude.proofs.way_back.eight_placed.Goals as goal

pub returns : goal.returns
returns c = (eight_placed c.args.g, eight_placed_lt c.args.g)
