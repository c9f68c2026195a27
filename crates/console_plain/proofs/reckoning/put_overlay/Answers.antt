-- `put_overlay` reads one number, and lays its overlay.
use Rattle.console_plain.proofs.Texts.{lent}
use Rattle.console_plain.proofs.ByWords.{by_words}
use Rattle.console_plain.proofs.reckoning.put_overlay.Goals as goal

pub returns : goal.returns
returns c = search (by_words, lent) depth 12
