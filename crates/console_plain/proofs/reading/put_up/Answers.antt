-- `put_up` reads one word of bytes, and lays the interrogation that they are.
use Rattle.console_plain.proofs.Texts.{lent}
use Rattle.console_plain.proofs.ByWords.{by_words}
use Rattle.console_plain.proofs.reading.put_up.Goals as goal

pub slice_bounds-msg-end : goal.slice_bounds-msg-end
slice_bounds-msg-end c = search lent

pub slice_bounds-put_interrogation-end : goal.slice_bounds-put_interrogation-end
slice_bounds-put_interrogation-end c = search lent

pub returns : goal.returns
returns c = search (by_words, lent) depth 12
