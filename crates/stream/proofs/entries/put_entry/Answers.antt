-- `put_entry` lays the numbers, and the line's end behind the last.
use Rattle.stream.proofs.PlanLines.{entry_ended}
use Rattle.stream.proofs.entries.put_entry.Goals as goal

pub returns : goal.returns
returns c = search entry_ended
