-- `parity::correction::correct` meets its contract: the lines of its table, and the last ones by what `settle` decides.
use Rattle.std.proofs.Common.{refl, sym, ◌∙◌, arith, length}
use mathlib.Core.Logic.{⊎_elim}
use Rattle.lists.proofs.Tests.{and_no_left, and_no_right, and_yes}
use Rattle.lists.proofs.Checks.{all, stop, rest, upto, tests}
use Rattle.parity_rules.specs.Answers.{not_corrected}
use Rattle.parity_rules.specs.Correction.{correction}
use Rattle.parity_rules.proofs.Judged.{Sizes, sizes}
use Rattle.parity_rules.proofs.Kept.{few_marks, kept_few}
use Rattle.parity.proofs.correction.correct.Goals as goal
use Rattle.parity.proofs.correction.correct.Goals.{Else-not-sized}

-- the lengths are right from the first check on
sizes_here : (c : Else-not-sized) → let a = c.args in
    Sizes (length a.msg.now) (length a.marks.now) (length a.out.now) (length a.places.now)
sizes_here c = sizes _ _ _ _ (sym c.sized.ensures ∙ c.if-not-sized.false)

pub returns-then-not-sized : goal.returns-then-not-sized
unfolding correction
returns-then-not-sized c = stop (not_corrected _) _ 1 all (search tests depth 12) (search tests)

pub returns-then-overlay-ge16777216 : goal.returns-then-overlay-ge16777216
unfolding correction
returns-then-overlay-ge16777216 c = stop (not_corrected _) _ 2 all (search tests depth 12)
    (⊎_elim (λ h. search (tests, and_no_left)) (λ h. search (tests, and_no_right)) c.then-overlay-ge16777216.either)

pub gather-many-requires : goal.gather-many-requires
gather-many-requires c = let s = sizes_here (goal.at.gather-many-requires c).Else-not-sized in (omega (arith, s.marks, s.most), refl)

pub returns-then-most-many : goal.returns-then-most-many
unfolding correction
returns-then-most-many c = stop (not_corrected _) _ 11 all (search (tests, and_yes) depth 12) (search tests)

pub settle-requires : goal.settle-requires
settle-requires c =
    let s = sizes_here (goal.at.settle-requires c).Else-not-sized in
    (s.marks, s.output, s.places, s.most, search few_marks, search kept_few)

pub returns : goal.returns
unfolding correction
returns c =
    rw c.remainder_of.ensures at c.settle.ensures
    ∙ rest (not_corrected _) _ (upto 12 all (search (tests, and_yes) depth 12))
