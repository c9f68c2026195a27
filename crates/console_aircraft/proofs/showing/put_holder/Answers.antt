-- `put_holder` goes by who holds; an II has eight bits.
use borrow.Author.Rules.{rules}
use Rattle.console_aircraft.proofs.Texts.{holder}
use Rattle.console_aircraft.proofs.showing.put_holder.Goals as goal

pub returns-in-None : goal.returns-in-None
returns-in-None c = (search holder, search holder)

pub returns-in-Some : goal.returns-in-Some
returns-in-Some c = (search holder, search (holder, rules))
