-- `put_command` has the call of a line that is read answered, or says why it is not.
use Rattle.console_lines.proofs.Lines.{was_read, not_read}
use Rattle.console_lines.proofs.console.put_command.Goals as goal

pub returns-in-Ok : goal.returns-in-Ok
returns-in-Ok c = was_read _ _ c.requires c.is_some.ensures c.read.ensures c.in-Ok.is c.put_call.ensures

pub returns-in-Err : goal.returns-in-Err
returns-in-Err c = not_read _ _ c.requires c.is_some.ensures c.read.ensures c.in-Err.is c.put_reason.ensures
