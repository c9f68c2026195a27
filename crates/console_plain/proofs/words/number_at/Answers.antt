-- `number_at` reads the word with that number.
use Rattle.console_plain.proofs.Texts.{the_number}
use Rattle.console_plain.proofs.words.number_at.Goals as goal

pub returns : goal.returns
returns c = the_number c.nth_word-w.ensures c.number_of.ensures c.unwrap_or.ensures
