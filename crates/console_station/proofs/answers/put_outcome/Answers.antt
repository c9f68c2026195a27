-- `put_outcome` lays the number of a call.
use Rattle.console_rules.specs.Station.{outcome_spoken}
use Rattle.console_station.proofs.answers.put_outcome.Goals as goal

pub returns : goal.returns
unfolding outcome_spoken
returns c = λ s. rw c.number_given.ensures at (c.put_number.ensures s)
