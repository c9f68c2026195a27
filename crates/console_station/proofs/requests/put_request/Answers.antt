-- `put_request` refuses an MA that has not seven bytes, and a number that is too wide, and else hands the request to the station.
use Rattle.std.proofs.Common.{rules}
use Rattle.console_plain.proofs.Texts.{lent}
use Rattle.console_station.proofs.ByWords.{was_read, not_read, request_short, request_read}
use Rattle.console_station.proofs.requests.put_request.Goals as goal

pub returns-then-n-ne7 : goal.returns-then-n-ne7
returns-then-n-ne7 c = request_short c.args.s.now _ c.bytes_at-n.ensures c.if-n-ne7.true (c.put_refused.ensures c.args.s.now)

pub slice_bounds-ma-end : goal.slice_bounds-ma-end
slice_bounds-ma-end c = search lent

pub slice_bounds-number_of-end : goal.slice_bounds-number_of-end
slice_bounds-number_of-end c = search lent

pub returns-in-Some : goal.returns-in-Some
returns-in-Some c =
    was_read _ _ (request_read c.args.s.now _ c.bytes_at-n.ensures c.number_of.ensures (search rules) c.if-n-ne7.false) _ c.in-Some.ensures
    (rw c.take_request.ensures at (c.put_outcome.ensures c.take_request.new.s))

pub returns-in-None : goal.returns-in-None
returns-in-None c =
    not_read _ _ (request_read c.args.s.now _ c.bytes_at-n.ensures c.number_of.ensures (search rules) c.if-n-ne7.false) c.in-None.ensures
    (c.put_refused-in-None.ensures c.args.s.now)
