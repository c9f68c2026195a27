-- `model::closeouts::closeout` meets its contract: by who holds.
use mathlib.Core.Path.{sym, ◌∙◌}
use Rattle.model_rules.specs.CommB.{closeout}
use Rattle.model.proofs.closeouts.closeout.Goals as goal

pub returns-then-closes : goal.returns-then-closes
unfolding closeout
returns-then-closes c = rw (sym c.closes.ensures ∙ c.if-closes.true, c.drop_first.ensures)

pub returns-else-closes : goal.returns-else-closes
unfolding closeout
returns-else-closes c = rw (sym c.closes.ensures ∙ c.if-closes.false)
