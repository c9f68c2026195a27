-- `put_queue` reads one word of bytes, and queues them.
use Rattle.console_plain.proofs.Texts.{lent}
use Rattle.console_aircraft.proofs.Texts.{lent_is, queue_line}
use Rattle.console_aircraft.proofs.queuing.put_queue.Goals as goal

pub slice_bounds-message-end : goal.slice_bounds-message-end
slice_bounds-message-end c = search lent

pub slice_bounds-queue-end : goal.slice_bounds-queue-end
slice_bounds-queue-end c = search lent

pub returns : goal.returns
returns c =
    queue_line _ _ (lent_is _ c.get_or_insert_with-t.ensures.cases) _ c.put_number.ensures c.number_given.ensures c.queue.ensures (search lent)
