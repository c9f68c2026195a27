-- `model::lapses::timers_after` meets its contract: a map in place.
use Rattle.model_rules.specs.Lapse.{timer_after}
use Rattle.lists.proofs.Mapped.{Mapped}
use Rattle.model.proofs.lapses.timers_after.Given as goal

abbrev pub invariant-loop-x : goal.invariant-loop-x
invariant-loop-x l = Mapped (timer_after l.now) l.initial.x-items l.x-index l.x-items
