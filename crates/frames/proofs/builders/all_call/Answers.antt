-- `frames::builders::all_call` meets its contract: its lines one after the other, then the frame.
use mathlib.Core.Path.{sym, ap, ◌∙◌}
use Prim.Native.Nat.{◌≤◌}
use native.Mathlib.Omega.{arith}
use borrow.Author.Rules.{rules}
use Rattle.lists.proofs.Checks.{all, stop, end}
use Rattle.frames_rules.specs.Answers.{not_built, holding}
use Rattle.frames_rules.specs.Building.{all_calling}
use Rattle.frames_rules.proofs.Lines.{lines, laid_short}
use Rattle.frames_rules.proofs.Ranges.{all_call_in, all_call_is}
use Rattle.frames.proofs.builders.all_call.Goals as goal
use Rattle.frames.proofs.builders.all_call.Goals.{Else-not-all_call_ranged}

-- the ranges once they are judged
in-range : (c : Else-not-all_call_ranged) → let a = c.args in (a.pr ≤ 15) × (a.ic ≤ 15) × (a.cl ≤ 7)
in-range c = all_call_in _ _ _ (sym c.all_call_ranged.ensures ∙ c.if-not-all_call_ranged.false)

pub returns-then-out-ne7 : goal.returns-then-out-ne7
unfolding all_calling
returns-then-out-ne7 c = stop (not_built _) _ 1 all (search lines depth 12) (search lines)

pub returns-then-not-all_call_ranged : goal.returns-then-not-all_call_ranged
unfolding all_calling
returns-then-not-all_call_ranged c = stop (not_built _) _ 2 all (search lines depth 12) (search lines)

pub all_call_head-requires : goal.all_call_head-requires
unfolding all_calling
all_call_head-requires c = let r = in-range (search rules) in (omega arith, omega arith, omega arith)

pub overlay_of-requires : goal.overlay_of-requires
unfolding all_calling
overlay_of-requires c = omega arith

pub write-requires : goal.write-requires
unfolding all_calling
write-requires c = search laid_short

pub returns : goal.returns
unfolding all_calling
returns c = ap holding (search all_call_is) ∙ end (not_built _) _ all (search lines depth 12)
