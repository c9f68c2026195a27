-- The next word: past the blanks, and to the next blank.
use Rattle.text_rules.specs.Line.{word_at}
use Rattle.text_rules.proofs.Words.{next_word}
use Rattle.text.proofs.line.word.Goals as goal

pub returns : goal.returns
unfolding word_at
returns c = next_word _ _ (rw (c.word_end-to.ensures, c.blanks_end-from.ensures))
