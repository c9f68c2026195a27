-- `put_entry_head` lays the numbers, and a space behind the last as well.
use Rattle.stream.proofs.PlanLines.{entry_headed}
use Rattle.stream.proofs.entries.put_entry_head.Goals as goal

pub returns : goal.returns
returns c = search entry_headed
