-- `put_feet` reads one number, and lays the answer for it.
use Rattle.console_plain.proofs.Texts.{lent}
use Rattle.console_plain.proofs.ByWords.{by_words}
use Rattle.console_plain.proofs.feet.put_feet.Goals as goal

pub returns : goal.returns
returns c = search (by_words, lent) depth 12
