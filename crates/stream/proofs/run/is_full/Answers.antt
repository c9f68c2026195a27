-- `is_full` compares what is held with the room that one record more may take.
use Rattle.std.proofs.Common.{rules}
use Rattle.stream_rules.specs.Run.{is_full}
use Rattle.stream.proofs.run.is_full.Goals as goal

pub returns : goal.returns
unfolding is_full
returns c = search rules
