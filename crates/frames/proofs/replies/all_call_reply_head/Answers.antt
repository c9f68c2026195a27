-- `frames::replies::all_call_reply_head` meets its contract: each value at its field.
use native.Mathlib.Omega.{arith}
use Rattle.frames_rules.specs.Fields.{all_call_reply_head}
use Rattle.frames.proofs.replies.all_call_reply_head.Goals as goal

pub returns : goal.returns
unfolding all_call_reply_head
returns c = omega arith
