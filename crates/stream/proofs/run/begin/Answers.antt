-- `begin` is the run before the first record.
use Rattle.stream_rules.specs.Run.{begun}
use Rattle.stream.proofs.run.begin.Goals as goal

pub returns : goal.returns
unfolding begun
returns c = rw c.before_setup.ensures
