-- `frames::replies::all_call_reply` meets its contract: its lines one after the other, then the frame.
use mathlib.Core.Path.{sym, ap, ◌∙◌}
use Prim.Native.Nat.{◌≤◌}
use native.Mathlib.Omega.{arith}
use borrow.Author.Rules.{rules}
use Rattle.lists.proofs.Checks.{all, stop, end}
use Rattle.frames_rules.specs.Answers.{not_built, holding}
use Rattle.frames_rules.specs.Building.{all_call_replying}
use Rattle.frames_rules.proofs.Lines.{lines, laid_short}
use Rattle.frames_rules.proofs.Ranges.{all_call_reply_in, all_call_reply_is}
use Rattle.frames.proofs.replies.all_call_reply.Goals as goal
use Rattle.frames.proofs.replies.all_call_reply.Goals.{Else-not-all_call_reply_ranged}

-- the ranges once they are judged
in-range : (c : Else-not-all_call_reply_ranged) → let a = c.args in
    (a.ca ≤ 7) × ((1 ≤ a.address) × (a.address ≤ 16777214)) × (a.cl ≤ 7) × (a.ic ≤ 15)
in-range c = all_call_reply_in _ _ _ _ (sym c.all_call_reply_ranged.ensures ∙ c.if-not-all_call_reply_ranged.false)

pub returns-then-out-ne7 : goal.returns-then-out-ne7
unfolding all_call_replying
returns-then-out-ne7 c = stop (not_built _) _ 1 all (search lines depth 12) (search lines)

pub returns-then-not-all_call_reply_ranged : goal.returns-then-not-all_call_reply_ranged
unfolding all_call_replying
returns-then-not-all_call_reply_ranged c = stop (not_built _) _ 2 all (search lines depth 12) (search lines)

pub all_call_reply_head-requires : goal.all_call_reply_head-requires
unfolding all_call_replying
all_call_reply_head-requires c = let r = in-range (search rules) in (omega arith, omega arith)

pub code_overlay-requires : goal.code_overlay-requires
unfolding all_call_replying
code_overlay-requires c = let r = in-range (goal.at.code_overlay-requires c).Else-not-all_call_reply_ranged in (omega arith, omega arith)

pub write-requires : goal.write-requires
unfolding all_call_replying
write-requires c = search laid_short

pub returns : goal.returns
unfolding all_call_replying
returns c = ap holding (search all_call_reply_is) ∙ end (not_built _) _ all (search lines depth 12)
