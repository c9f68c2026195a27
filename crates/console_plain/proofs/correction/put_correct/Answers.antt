-- `put_correct` reads four words, and lays the correction of what they say.
use Rattle.console_plain.proofs.Texts.{lent}
use Rattle.console_plain.proofs.ByWords.{by_words}
use Rattle.console_plain.proofs.correction.put_correct.Goals as goal

pub slice_bounds-msg-end : goal.slice_bounds-msg-end
slice_bounds-msg-end c = search lent

pub slice_bounds-put_fixed-end : goal.slice_bounds-put_fixed-end
slice_bounds-put_fixed-end c = search lent

pub slice_bounds-marks-end : goal.slice_bounds-marks-end
slice_bounds-marks-end c = search lent

pub slice_bounds-put_fixed-end-2 : goal.slice_bounds-put_fixed-end-2
slice_bounds-put_fixed-end-2 c = search lent

pub slice_bounds-fixed-end : goal.slice_bounds-fixed-end
slice_bounds-fixed-end c = search lent

pub slice_bounds-put_fixed-end-3 : goal.slice_bounds-put_fixed-end-3
slice_bounds-put_fixed-end-3 c = search lent

pub slice_bounds-flipped-end : goal.slice_bounds-flipped-end
slice_bounds-flipped-end c = search lent

pub slice_bounds-put_fixed-end-4 : goal.slice_bounds-put_fixed-end-4
slice_bounds-put_fixed-end-4 c = search lent

pub put_fixed-requires : goal.put_fixed-requires
put_fixed-requires c = search lent

pub returns : goal.returns
returns c = search (by_words, lent) depth 12
