-- `put_model` reads five numbers, and has the aircraft made of them.
use Rattle.console_plain.proofs.Texts.{lent}
use Rattle.console_aircraft.proofs.Texts.{by_words}
use Rattle.console_aircraft.proofs.making.put_model.Goals as goal

pub returns : goal.returns
returns c = search (by_words, lent) depth 12
