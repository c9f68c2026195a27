-- `frames::builders::all_call_head` meets its contract: each value at its field.
use native.Mathlib.Omega.{arith}
use Rattle.frames_rules.specs.Fields.{all_call_head}
use Rattle.frames.proofs.builders.all_call_head.Goals as goal

pub returns : goal.returns
unfolding all_call_head
returns c = omega arith
