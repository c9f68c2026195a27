-- `frames::replies::all_call_reply_ranged` meets its contract: each range in turn.
use mathlib.Core.Path.{sym}
use Rattle.frames_rules.specs.Building.{all_call_reply_ranged}
use Rattle.frames_rules.proofs.Lines.{ranges}
use Rattle.frames.proofs.replies.all_call_reply_ranged.Goals as goal

pub returns-then-ca-gt7 : goal.returns-then-ca-gt7
unfolding all_call_reply_ranged
returns-then-ca-gt7 c = sym (search ranges depth 12)

pub returns-then-not-is_address : goal.returns-then-not-is_address
unfolding all_call_reply_ranged
returns-then-not-is_address c = sym (search ranges depth 12)

pub returns-then-cl-gt7 : goal.returns-then-cl-gt7
unfolding all_call_reply_ranged
returns-then-cl-gt7 c = sym (search ranges depth 12)

pub returns : goal.returns
unfolding all_call_reply_ranged
returns c = search ranges depth 12
