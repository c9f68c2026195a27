-- `frames::codes::code_of` meets its contract: its lines one after the other, then whose code it is.
use mathlib.Core.Path.{◌≡◌, sym, ◌∙◌}
use mathlib.Core.Bool.{true}
use Prim.Native.Nat.{◌≤◌}
use native.Mathlib.Omega.{arith}
use lib.ListN.{length}
use Rattle.lists.specs.Answers.{refused_by}
use Rattle.lists.proofs.Checks.{all, stop, end}
use Rattle.parity_rules.specs.Messages.{seven_or_fourteen}
use Rattle.frames_rules.specs.Codes.{code_of}
use Rattle.frames_rules.proofs.Lines.{lines}
use Rattle.frames_rules.proofs.Ranges.{station_in}
use Rattle.frames.proofs.codes.code_of.Goals as goal
use Rattle.frames.proofs.codes.code_of.Goals.{Else-not-seven_or_fourteen, Else-not-station_ranged}
use Rattle.frames.proofs.codes.code_of.Goals.{then-msg-ne7-via-then-msg-ne7, then-msg-ne7-via-else-msg-ne7+then-head_of-ne11}

-- the length, and then the ranges, once they are judged
measured : (c : Else-not-seven_or_fourteen) → seven_or_fourteen (length c.args.msg.now) ≡ true
measured c = sym c.seven_or_fourteen.ensures ∙ c.if-not-seven_or_fourteen.false

in-range : (c : Else-not-station_ranged) → let a = c.args in (a.cl ≤ 7) × (a.ic ≤ 15) × (a.permit ≤ 1)
in-range c = station_in _ _ _ (sym c.station_ranged.ensures ∙ c.if-not-station_ranged.false)

pub returns-then-not-seven_or_fourteen : goal.returns-then-not-seven_or_fourteen
unfolding code_of
returns-then-not-seven_or_fourteen c = stop refused_by _ 1 all (search lines depth 12) (search lines)

pub returns-then-not-station_ranged : goal.returns-then-not-station_ranged
unfolding code_of
returns-then-not-station_ranged c = stop refused_by _ 2 all (search lines depth 12) (search lines)

pub returns-then-msg-ne7 : goal.returns-then-msg-ne7
unfolding code_of
returns-then-msg-ne7 c = stop refused_by _ 14 all (search lines depth 12)
    (elim c.then-msg-ne7.branch [
      | then-msg-ne7-via-then-msg-ne7 w ↦ search lines
      | then-msg-ne7-via-else-msg-ne7+then-head_of-ne11 w ↦ search lines
    ])

pub head_of-requires : goal.head_of-requires
unfolding code_of
head_of-requires c = measured (goal.at.head_of-requires c).Else-not-seven_or_fourteen

pub remainder_of-requires : goal.remainder_of-requires
unfolding code_of
remainder_of-requires c = measured (goal.at.remainder_of-requires c).Else-not-seven_or_fourteen

pub whose_code-requires : goal.whose_code-requires
unfolding code_of
whose_code-requires c = let r = in-range (goal.at.whose_code-requires c).Else-not-station_ranged in (omega arith, omega arith)

pub returns : goal.returns
unfolding code_of
returns c = rw c.remainder_of.ensures.0 at c.whose_code.ensures
    ∙ end refused_by _ all (search lines depth 12)
