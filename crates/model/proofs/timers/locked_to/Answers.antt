-- `model::timers::locked_to` meets its contract: the timer at its place.
use mathlib.Core.Path.{◌∙◌}
use borrow.Author.Tests.{le-ltb}
use Rattle.model.proofs.Slots.{locked_none, locked_at}
use Rattle.model.proofs.timers.locked_to.Goals as goal

pub returns-then-place-list : goal.returns-then-place-list
returns-then-place-list c = locked_at _ _ _ c.place_of-place.ensures _ c.as_slice-list.ensures _ c.is_some.ensures

pub returns-else-place-list : goal.returns-else-place-list
returns-else-place-list c = le-ltb _ _ c.if-place-list.false ∙ locked_none _ _ _ c.place_of-place.ensures _ c.as_slice-list.ensures c.if-place-list.false
