-- `frames::replies::reply_head` meets its contract: each value at its field.
use native.Mathlib.Omega.{arith}
use Rattle.frames_rules.specs.Fields.{reply_head}
use Rattle.frames.proofs.replies.reply_head.Goals as goal

pub returns : goal.returns
unfolding reply_head
returns c = omega arith
