-- `integer_of` goes by the first byte.
use mathlib.Core.Path.{ap, ◌∙◌}
use Rattle.text_rules.specs.Signed.{upward, downward, integer_of}
use Rattle.text.proofs.Values.{same_told}
use Rattle.text.proofs.signed.integer_of.Goals as goal

pub returns-in-Some : goal.returns-in-Some
unfolding integer_of
returns-in-Some c = let e = c.in-Some.ensures.cases in rw (← e.1, same_told _ _ e.0) (c.down.ensures ∙ ap downward c.number.ensures)

pub returns-in-None : goal.returns-in-None
unfolding integer_of
returns-in-None c = rw (same_told _ _ c.in-None.ensures.cases) (c.up.ensures ∙ ap upward c.number_of.ensures)
