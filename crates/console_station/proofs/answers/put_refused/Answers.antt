-- `put_refused` lays the refusal's number.
use Rattle.console_station.proofs.answers.put_refused.Goals as goal

pub returns : goal.returns
returns c = λ s. rw c.from.ensures at (c.put_number.ensures s)
