-- `pattern` reads the table at C1 C2 C4, which holds the definition's patterns.
use Rattle.altitude_rules.proofs.Reckoned.{group_is, group_le}
use Rattle.altitude.proofs.code.pattern.Goals as goal

pub returns : goal.returns
returns c = (group_is c.args.ac, group_le c.args.ac)
