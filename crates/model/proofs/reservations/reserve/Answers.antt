-- `model::reservations::reserve` meets its contract: test by test.
use mathlib.Core.Path.{refl, sym, ◌∙◌}
use Rattle.model.proofs.Steps.{not_asked, none_waits, another_holds, reserved}
use Rattle.model.proofs.reservations.reserve.Goals as goal
use Rattle.model.proofs.reservations.reserve.Goals.{else-asks_to_hold-via-then-asks_to_hold+then-waits+else-nobody_else}
use Rattle.model.proofs.reservations.reserve.Goals.{else-asks_to_hold-via-then-asks_to_hold+else-waits, else-asks_to_hold-via-else-asks_to_hold}

pub returns-then-nobody_else : goal.returns-then-nobody_else
returns-then-nobody_else c =
    reserved _ _ _ (sym c.asks_to_hold.ensures ∙ c.if-asks_to_hold.true) (sym c.waits.ensures ∙ c.if-waits.true) _ c.iis-ii.ensures.0 _
    (sym c.nobody_else.ensures ∙ c.if-nobody_else.true)
    refl

pub returns-else-asks_to_hold : goal.returns-else-asks_to_hold
returns-else-asks_to_hold c =
    elim c.else-asks_to_hold.branch [
      | else-asks_to_hold-via-then-asks_to_hold+then-waits+else-nobody_else w ↦
          another_holds _ _ _ (sym c.asks_to_hold.ensures ∙ w.if-asks_to_hold.true) (sym w.waits.ensures ∙ w.if-waits.true) _ c.iis-ii.ensures.0
          (sym w.nobody_else.ensures ∙ w.if-nobody_else.false)
      | else-asks_to_hold-via-then-asks_to_hold+else-waits w ↦
          none_waits _ _ _ (sym c.asks_to_hold.ensures ∙ w.if-asks_to_hold.true) (sym w.waits.ensures ∙ w.if-waits.false)
      | else-asks_to_hold-via-else-asks_to_hold w ↦ not_asked _ _ _ (sym c.asks_to_hold.ensures ∙ w.if-asks_to_hold.false)
    ]
