-- `eight_bits` gathers the eight bits of the five hundreds in three groups.
use Rattle.altitude_rules.proofs.Reckoned.{eight_is, eight_lt}
use Rattle.altitude.proofs.code.eight_bits.Goals as goal

pub returns : goal.returns
returns c = (eight_is c.args.ac, eight_lt c.args.ac)
