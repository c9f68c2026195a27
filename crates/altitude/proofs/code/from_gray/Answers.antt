-- `from_gray` undoes the Gray code of eight bits by three folds.
use Rattle.altitude_rules.proofs.Reckoned.{gray_is, gray_lt}
use Rattle.altitude.proofs.code.from_gray.Goals as goal

pub returns : goal.returns
returns c = (gray_is c.args.g c.requires, gray_lt c.args.g c.requires)
