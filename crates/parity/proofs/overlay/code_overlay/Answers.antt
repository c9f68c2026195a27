-- `parity::overlay::code_overlay` meets its contract: the ranges, then the sum.
use mathlib.Core.Logic.{⊎_elim}
use Rattle.lists.specs.Answers.{refused_by}
use Rattle.lists.proofs.Tests.{and_no_left, and_no_right, and_yes}
use Rattle.lists.proofs.Checks.{all, stop, end, tests}
use Rattle.parity_rules.specs.Overlays.{code_overlay}
use Rattle.parity.proofs.overlay.code_overlay.Goals as goal

pub returns-then-cl-gt7 : goal.returns-then-cl-gt7
unfolding code_overlay
returns-then-cl-gt7 c = stop refused_by _ 2 all (search tests depth 12)
    (⊎_elim (λ h. search (tests, and_no_left)) (λ h. search (tests, and_no_right)) c.then-cl-gt7.either)

pub returns : goal.returns
unfolding code_overlay
returns c = end refused_by _ all (search (tests, and_yes) depth 12)
