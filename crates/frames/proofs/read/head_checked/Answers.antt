-- `frames::read::head_checked` meets its contract: its lines one after the other, then the head.
use mathlib.Core.Path.{ap, ◌∙◌}
use mathlib.Core.List.{[], ◌∷◌}
use Prim.Native.Nat.{ℕ}
use Rattle.lists.specs.Answers.{done, refused_by}
use Rattle.lists.proofs.Checks.{all, stop, end}
use Rattle.frames_rules.specs.Reading.{read_checks}
use Rattle.frames_rules.proofs.Lines.{lines}
use Rattle.frames.proofs.read.head_checked.Goals as goal

pub returns-then-not-seven_or_fourteen : goal.returns-then-not-seven_or_fourteen
unfolding read_checks
returns-then-not-seven_or_fourteen c = stop refused_by _ 1 all (search lines depth 12) (search lines)

pub returns-then-not-listed : goal.returns-then-not-listed
unfolding read_checks
returns-then-not-listed c = stop refused_by _ 14 all (search lines depth 12) (search lines)

pub returns : goal.returns
unfolding read_checks
returns c = ap (λ (v : ℕ). done (v ∷ [])) c.head_of-head.ensures ∙ end refused_by _ all (search lines depth 12)
