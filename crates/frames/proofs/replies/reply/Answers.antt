-- `frames::replies::reply` meets its contract: its lines one after the other, then the frame.
use mathlib.Core.Path.{◌≡◌, sym, ap, ◌∙◌}
use mathlib.Core.Bool.{true}
use native.Mathlib.Omega.{arith}
use borrow.Author.Rules.{rules}
use Rattle.lists.proofs.Checks.{all, stop, upto, end}
use Rattle.frames_rules.specs.Answers.{not_built, holding}
use Rattle.frames_rules.specs.Formats.{surveillance}
use Rattle.frames_rules.specs.Building.{replying}
use Rattle.frames_rules.proofs.Lines.{lines, told_same, laid}
use Rattle.frames_rules.proofs.Ranges.{InReply, surveillance_lt, reply_in, reply_is}
use Rattle.frames.proofs.replies.reply.Goals as goal
use Rattle.frames.proofs.replies.reply.Goals.{Else-not-reply_ranged, Else-not-surveillance}

format : (c : Else-not-surveillance) → surveillance c.args.df ≡ true
format c = sym c.surveillance.ensures ∙ c.if-not-surveillance.false

in-range : (c : Else-not-reply_ranged) → let a = c.args in InReply a.df a.fs a.dr a.um a.value a.mb a.address
in-range c = reply_in _ _ _ _ _ _ _ (sym c.reply_ranged.ensures ∙ c.if-not-reply_ranged.false)

pub returns-then-not-surveillance : goal.returns-then-not-surveillance
unfolding replying
returns-then-not-surveillance c = stop (not_built _) _ 2 all (search lines depth 12) (search lines)

pub returns-then-out-length_of : goal.returns-then-out-length_of
unfolding replying
returns-then-out-length_of c = stop (not_built _) _ 1 all (search lines depth 12) (search lines)

pub returns-then-not-reply_ranged : goal.returns-then-not-reply_ranged
unfolding replying
returns-then-not-reply_ranged c = stop (not_built _) _ 2 (upto 1 all (search lines depth 12)) (search lines depth 12) (search lines)

pub reply_head-requires : goal.reply_head-requires
unfolding replying
reply_head-requires c = let r = in-range (search rules) in (
  surveillance_lt _ (format (goal.at.reply_head-requires c).Else-not-surveillance),
  omega arith,
  omega arith,
  omega arith,
  omega arith,
)

pub write-requires : goal.write-requires
unfolding replying
write-requires c = search laid

pub returns : goal.returns
unfolding replying
returns c = ap holding (search (reply_is, told_same)) ∙ end (not_built _) _ all (search lines depth 12)
