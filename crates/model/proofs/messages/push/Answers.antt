-- `model::messages::push` meets its contract: one more after those that wait.
use mathlib.Core.Path.{◌≡◌}
use native.Mathlib.Omega.{arith}
use lib.ListN.{length}
use Rattle.model_rules.specs.State.{messages_with}
use Rattle.lists.proofs.Over.{front_push}
use borrow.Author.Rules.{rules}
use Rattle.model.proofs.messages.push.Goals as goal

pub returns : goal.returns
unfolding messages_with
returns c =
    let m = c.args.m.now in
    let e : length m.list ≡ 8 = search rules in
    let k = c.count-n.ensures.0 in
    let l = front_push m.n m.list c.args.v _ k (omega arith) in
    cc
