-- `put_build` reads seven words, and lays the interrogation of what they say.
use Rattle.console_plain.proofs.Texts.{lent}
use Rattle.console_plain.proofs.ByWords.{by_words}
use Rattle.console_plain.proofs.building.put_build.Goals as goal

pub slice_bounds-ma-end : goal.slice_bounds-ma-end
slice_bounds-ma-end c = search lent

pub slice_bounds-put_selective-end : goal.slice_bounds-put_selective-end
slice_bounds-put_selective-end c = search lent

pub returns : goal.returns
returns c = search (by_words, lent) depth 12
