-- `model::lapses::lapse` meets its contract: each part lapses.
use Rattle.model_rules.specs.Lapse.{lapse}
use Rattle.model.proofs.lapses.lapse.Goals as goal

pub returns : goal.returns
unfolding lapse
returns c = rw (c.timers_after.ensures, c.holder_after-t.ensures)
