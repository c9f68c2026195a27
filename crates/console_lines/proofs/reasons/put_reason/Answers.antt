-- `put_reason` goes by the reason; a number in it has three digits at most.
use Rattle.console_rules.specs.Reasons.{reason_text}
use Rattle.console_lines.proofs.Judging.{reasons}
use Rattle.console_lines.proofs.reasons.put_reason.Goals as goal

pub returns-in-NoSuchLine : goal.returns-in-NoSuchLine
unfolding reason_text
returns-in-NoSuchLine c = search reasons

pub returns-in-Wanted : goal.returns-in-Wanted
unfolding reason_text
returns-in-Wanted c = search reasons

pub returns-in-NoAircraft : goal.returns-in-NoAircraft
unfolding reason_text
returns-in-NoAircraft c = search reasons

pub returns-in-NoNumber : goal.returns-in-NoNumber
unfolding reason_text
returns-in-NoNumber c = search reasons

pub returns-in-NoBytes : goal.returns-in-NoBytes
unfolding reason_text
returns-in-NoBytes c = search reasons
