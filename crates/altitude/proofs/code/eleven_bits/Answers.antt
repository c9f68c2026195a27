-- `eleven_bits` gathers the eleven bits besides M and Q.
use native.Mathlib.Omega.{arith}
use Rattle.altitude_rules.proofs.Reckoned.{eleven_is}
use Rattle.altitude.proofs.code.eleven_bits.Goals as goal

pub returns : goal.returns
returns c = (eleven_is c.args.ac c.requires, omega arith)
