-- `model::messages::drop_first` meets its contract: nothing when none waits, else the others move up.
use mathlib.Core.Path.{◌≡◌, sym, ◌∙◌}
use native.Mathlib.Omega.{arith}
use lib.ListN.{length}
use Rattle.model_rules.specs.State.{messages_after}
use Rattle.model.proofs.Slots.{dropped}
use borrow.Author.Rules.{rules}
use Rattle.model.proofs.messages.drop_first.Goals as goal

pub returns-then-waits : goal.returns-then-waits
returns-then-waits c =
    let m = c.args.m.now in
    let e : length m.list ≡ 8 = search rules in
    dropped m _ _ (omega arith) (sym c.waits.ensures ∙ c.if-waits.true) c.count.ensures.0 c.rotate_left.ensures.after

pub returns-else-waits : goal.returns-else-waits
unfolding messages_after
returns-else-waits c = rw (sym c.waits.ensures ∙ c.if-waits.false)
