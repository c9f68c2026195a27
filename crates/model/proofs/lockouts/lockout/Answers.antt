-- `model::lockouts::lockout` meets its contract: both commands.
use Rattle.model_rules.specs.Lockout.{lockout, commanded}
use Rattle.model.proofs.lockouts.lockout.Goals as goal

pub returns : goal.returns
unfolding lockout commanded
returns c = rw (c.start-2.ensures, c.start.ensures, c.command_of_sd.ensures, c.command_of_pc.ensures)
