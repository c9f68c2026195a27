-- `station::ages::value_after` meets its contract: by its case.
use Rattle.station.proofs.ages.value_after.Goals as goal

pub returns-in-None : goal.returns-in-None
returns-in-None c = simp c.in-None.is

pub returns-in-Some : goal.returns-in-Some
returns-in-Some c = simp (c.in-Some.is, c.age_after.ensures)
