-- `bytes_at` reads the word with that number.
use Rattle.console_plain.proofs.Texts.{the_bytes}
use Rattle.console_plain.proofs.words.bytes_at.Goals as goal

pub returns : goal.returns
returns c = the_bytes c.nth_word-w.ensures c.hex_bytes.ensures c.unwrap_or.ensures
