-- `model::selective::interrogated` meets its contract: the steps in their order.
use Rattle.model_rules.specs.Calls.{steps, interrogated}
use Rattle.model.proofs.selective.interrogated.Goals as goal

pub returns : goal.returns
unfolding interrogated steps
returns c = rw (c.respond.ensures, c.closeout.ensures, c.reserve.ensures, c.lockout.ensures)
