-- `model::timers::start` meets its contract: the timer at its place, or none.
use Rattle.model.proofs.Slots.{started_at, started_none}
use Rattle.model.proofs.timers.start.Goals as goal

pub returns-then-place-list : goal.returns-then-place-list
returns-then-place-list c = started_at _ _ _ _ _ _ c.in-Some.is c.place_of-place.ensures c.as_mut_slice-list.ensures.value

pub returns-else-place-list : goal.returns-else-place-list
returns-else-place-list c = started_none _ _ _ _ _ _ c.in-Some.is c.place_of-place.ensures c.as_mut_slice-list.ensures.value c.if-place-list.false
