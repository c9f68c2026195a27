-- `parity::division::remainder` meets its contract: the length decides, and `remainder_of` reckons.
use mathlib.Core.Path.{ap, ◌∙◌}
use mathlib.Core.List.{[], ◌∷◌}
use Prim.Native.Nat.{ℕ}
use Rattle.lists.specs.Answers.{done, refused_by}
use Rattle.lists.proofs.Checks.{all, stop, end, tests}
use Rattle.parity_rules.specs.Division.{remainder_answer}
use Rattle.parity.proofs.division.remainder.Goals as goal

pub returns-then-not-seven_or_fourteen : goal.returns-then-not-seven_or_fourteen
unfolding remainder_answer
returns-then-not-seven_or_fourteen c = stop refused_by _ 1 all (search tests depth 12) (search tests)

pub returns : goal.returns
unfolding remainder_answer
returns c = ap (λ (v : ℕ). done (v ∷ [])) c.remainder_of.ensures ∙ end refused_by _ all (search tests depth 12)
