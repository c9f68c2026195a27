-- `frames::builders::build` meets its contract: its lines one after the other, then the frame.
use mathlib.Core.Path.{sym, ap, ◌∙◌}
use mathlib.Core.Logic.{⊎_elim}
use native.Mathlib.Omega.{arith}
use borrow.Author.Rules.{rules}
use Rattle.lists.proofs.Checks.{all, stop, upto, end}
use Rattle.frames_rules.specs.Answers.{not_built, holding}
use Rattle.frames_rules.specs.Building.{building}
use Rattle.frames_rules.proofs.Lines.{lines, told_same, laid}
use Rattle.frames_rules.proofs.Ranges.{InSelective, surveillance_lt, selective_in, selective_is}
use Rattle.frames.proofs.builders.build.Goals as goal
use Rattle.frames.proofs.builders.build.Goals.{Else-not-selective_ranged}

in-range : (c : Else-not-selective_ranged) → let a = c.args in InSelective a.uf a.pc a.rr a.di a.sd c.number_in-mid.result a.address
in-range c = selective_in _ _ _ _ _ _ _ (sym c.selective_ranged.ensures ∙ c.if-not-selective_ranged.false)

pub returns-then-not-surveillance : goal.returns-then-not-surveillance
unfolding building
returns-then-not-surveillance c = stop (not_built _) _ 2 all (search lines depth 12) (search lines)

pub returns-then-out-length_of : goal.returns-then-out-length_of
unfolding building
returns-then-out-length_of c = stop (not_built _) _ 1 all (search lines depth 12)
    (⊎_elim (λ h. search lines) (λ h. search lines) c.then-out-length_of.either)

pub returns-then-not-selective_ranged : goal.returns-then-not-selective_ranged
unfolding building
returns-then-not-selective_ranged c = stop (not_built _) _ 2 (upto 1 all (search lines depth 12)) (search lines depth 12) (search lines)

pub selective_head-head-requires : goal.selective_head-head-requires
unfolding building
selective_head-head-requires c = let r = in-range (search rules) in (surveillance_lt _ r.format, omega arith, omega arith, omega arith, omega arith)

pub overlay_of-requires : goal.overlay_of-requires
unfolding building
overlay_of-requires c = let r = in-range (goal.at.overlay_of-requires c).Else-not-selective_ranged in omega arith

pub write-requires : goal.write-requires
unfolding building
write-requires c = search laid

pub returns : goal.returns
unfolding building
returns c = ap holding (search (selective_is, told_same)) ∙ end (not_built _) _ all (search lines depth 12)
