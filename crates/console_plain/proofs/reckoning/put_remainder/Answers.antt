-- `put_remainder` reads one word of bytes, and lays their remainder.
use Rattle.console_plain.proofs.Texts.{lent}
use Rattle.console_plain.proofs.ByWords.{by_words}
use Rattle.console_plain.proofs.reckoning.put_remainder.Goals as goal

pub slice_bounds-msg-end : goal.slice_bounds-msg-end
slice_bounds-msg-end c = search lent

pub slice_bounds-remainder-end : goal.slice_bounds-remainder-end
slice_bounds-remainder-end c = search lent

pub returns : goal.returns
returns c = search (by_words, lent) depth 12
