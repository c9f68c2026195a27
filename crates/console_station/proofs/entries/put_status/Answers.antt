-- `put_status` lays the word of each case.
use Rattle.console_station.proofs.Listed.{statuses}
use Rattle.console_station.proofs.entries.put_status.Goals as goal

pub returns-in-Open : goal.returns-in-Open
returns-in-Open c = search statuses

pub returns-in-Answered : goal.returns-in-Answered
returns-in-Answered c = search statuses

pub returns-in-Withdrawn : goal.returns-in-Withdrawn
returns-in-Withdrawn c = search statuses
