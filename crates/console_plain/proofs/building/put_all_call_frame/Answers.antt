-- `put_all_call_frame` reads three numbers, and lays the all-call of what they say.
use Rattle.console_plain.proofs.Texts.{lent}
use Rattle.console_plain.proofs.ByWords.{by_words}
use Rattle.console_plain.proofs.building.put_all_call_frame.Goals as goal

pub slice_bounds-put_built-end : goal.slice_bounds-put_built-end
slice_bounds-put_built-end c = search lent

pub returns : goal.returns
returns c = search (by_words, lent) depth 12
