-- `model::lapses::timers_after` meets its contract: a map in place.
use mathlib.Core.Path.{ap, ◌∙◌}
use mathlib.Core.List.{map}
use Rattle.model_rules.specs.Lapse.{timer_after}
use Rattle.model.proofs.Slots.{timers_are}
use Rattle.lists.proofs.Mapped.{mapped_none, mapped_more, mapped_all}
use Rattle.model.proofs.lapses.timers_after.Goals as goal

pub loop-x-init : goal.loop-x-init
loop-x-init c = mapped_none _ _

pub loop-x-preserved : goal.loop-x-preserved
loop-x-preserved c = mapped_more _ _ _ _ _ c.loop-x-test.true c.loop-x.invariant _ c.timer_after.ensures

pub returns : goal.returns
returns c =
    timers_are _ _ _ (mapped_all _ _ _ _ c.loop-x-test.false c.loop-x.invariant ∙ ap (map (timer_after c.args.now)) c.as_mut_slice-x-items.ensures.value)
