-- `number_of` goes by the first two bytes.
use Rattle.text_rules.specs.Bases.{number_of}
use Rattle.text.proofs.Values.{same_told}
use Rattle.text.proofs.bases.number_of.Goals as goal

pub returns-in-Some : goal.returns-in-Some
unfolding number_of
returns-in-Some c = let e = c.in-Some.ensures.cases in rw (← e.1, same_told _ _ e.0) c.hex_number.ensures

pub returns-in-None : goal.returns-in-None
unfolding number_of
returns-in-None c = rw (same_told _ _ c.in-None.ensures.cases) c.number.ensures
