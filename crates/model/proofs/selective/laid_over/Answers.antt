-- `model::selective::laid_over` meets its contract: by the overlay that parity reckons.
use Rattle.model.proofs.Built.{over_is, over_refused}
use Rattle.model.proofs.selective.laid_over.Goals as goal

pub returns-in-Ok : goal.returns-in-Ok
returns-in-Ok c = over_is _ _ _ c.uplink_overlay.ensures _ c.in-Ok.is

pub returns-in-Err : goal.returns-in-Err
returns-in-Err c = over_refused _ _ _ c.uplink_overlay.ensures _ c.in-Err.is
