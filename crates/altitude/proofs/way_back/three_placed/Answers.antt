-- `three_placed` lays each of the three bits at its place.
use native.Mathlib.Omega.{arith}
use Rattle.altitude_rules.specs.WayBack.{code_of_bits}
use Rattle.altitude.proofs.way_back.three_placed.Goals as goal

pub returns : goal.returns
unfolding code_of_bits
returns c = (omega arith, omega arith)
