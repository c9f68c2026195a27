-- `put_send` reads the time, the draw and the frame, and has the aircraft take it.
use Rattle.console_plain.proofs.Texts.{lent}
use Rattle.console_aircraft.proofs.Texts.{lent_is, send_done, send_refused}
use Rattle.console_aircraft.proofs.sending.put_send.Goals as goal

pub slice_bounds-frame-end : goal.slice_bounds-frame-end
slice_bounds-frame-end c = search lent

pub slice_bounds-take-end : goal.slice_bounds-take-end
slice_bounds-take-end c = search lent

pub returns-in-Ok : goal.returns-in-Ok
returns-in-Ok c =
    send_done _ _ (lent_is _ c.get_or_insert_with-t.ensures.cases) c.take.ensures (search lent) (search lent) (search lent) c.in-Ok.is c.put_sent.ensures

pub returns-in-Err : goal.returns-in-Err
returns-in-Err c =
    send_refused _ _ (lent_is _ c.get_or_insert_with-t.ensures.cases) c.take.ensures (search lent) (search lent) (search lent) c.in-Err.is c.from.ensures
    c.put_number.ensures
