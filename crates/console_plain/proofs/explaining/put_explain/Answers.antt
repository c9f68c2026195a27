-- `put_explain` reads one number, and lays what it means.
use Rattle.console_plain.proofs.Texts.{lent}
use Rattle.console_plain.proofs.ByWords.{by_words}
use Rattle.console_plain.proofs.explaining.put_explain.Goals as goal

pub returns : goal.returns
returns c = search (by_words, lent) depth 12
