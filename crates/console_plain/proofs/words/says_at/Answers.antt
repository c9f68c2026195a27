-- `says_at` looks at the word with that number.
use Rattle.console_plain.proofs.Texts.{same_says}
use Rattle.console_plain.proofs.words.says_at.Goals as goal

pub returns : goal.returns
returns c = same_says _ c.nth_word-w.ensures c.word_says.ensures
