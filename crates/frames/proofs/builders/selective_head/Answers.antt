-- `frames::builders::selective_head` meets its contract: each value at its field.
use native.Mathlib.Omega.{arith}
use Rattle.frames_rules.specs.Fields.{selective_head}
use Rattle.frames.proofs.builders.selective_head.Goals as goal

pub returns : goal.returns
unfolding selective_head
returns c = omega arith
