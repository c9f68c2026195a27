-- `frames::read::all_call_reply` meets its contract: each value from its field.
use mathlib.Core.Path.{◌≡◌}
use Prim.Native.Nat.{◌/◌}
use native.Mathlib.Omega.{arith}
use Rattle.frames_rules.specs.Reading.{all_call_reply_read}
use Rattle.frames.proofs.read.all_call_reply.Goals as goal

pub returns : goal.returns
unfolding all_call_reply_read
returns c = let e : c.args.head / 1 ≡ c.args.head = omega arith in rw e
