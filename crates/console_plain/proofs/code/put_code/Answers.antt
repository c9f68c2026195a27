-- `put_code` reads four words, and lays whose code they say.
use Rattle.console_plain.proofs.Texts.{lent}
use Rattle.console_plain.proofs.ByWords.{by_words}
use Rattle.console_plain.proofs.code.put_code.Goals as goal

pub slice_bounds-msg-end : goal.slice_bounds-msg-end
slice_bounds-msg-end c = search lent

pub slice_bounds-code_of-end : goal.slice_bounds-code_of-end
slice_bounds-code_of-end c = search lent

pub returns : goal.returns
returns c = search (by_words, lent) depth 12
