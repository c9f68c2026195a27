-- `put_reply` reads four words, and lays what the station answers to them.
use Rattle.console_plain.proofs.Texts.{lent}
use Rattle.console_station.proofs.Said.{reply_read}
use Rattle.console_station.proofs.replying.put_reply.Goals as goal

pub slice_bounds-msg-end : goal.slice_bounds-msg-end
slice_bounds-msg-end c = search lent

pub slice_bounds-put_taken-end : goal.slice_bounds-put_taken-end
slice_bounds-put_taken-end c = search lent

pub slice_bounds-marks-end : goal.slice_bounds-marks-end
slice_bounds-marks-end c = search lent

pub slice_bounds-put_taken-end-2 : goal.slice_bounds-put_taken-end-2
slice_bounds-put_taken-end-2 c = search lent

pub slice_bounds-corrected-end : goal.slice_bounds-corrected-end
slice_bounds-corrected-end c = search lent

pub slice_bounds-put_taken-end-3 : goal.slice_bounds-put_taken-end-3
slice_bounds-put_taken-end-3 c = search lent

pub slice_bounds-flipped-end : goal.slice_bounds-flipped-end
slice_bounds-flipped-end c = search lent

pub slice_bounds-put_taken-end-4 : goal.slice_bounds-put_taken-end-4
slice_bounds-put_taken-end-4 c = search lent

pub put_taken-requires : goal.put_taken-requires
put_taken-requires c = search lent

pub returns : goal.returns
returns c = search (reply_read, lent) depth 12
