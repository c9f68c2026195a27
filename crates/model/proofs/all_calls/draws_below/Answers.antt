-- `model::all_calls::draws_below` meets its contract: by PR.
use borrow.Author.Tests.{le-leb, lt-leb}
use native.Mathlib.Omega.{arith}
use Rattle.model_rules.specs.Replies.{draws_below}
use Rattle.model.proofs.all_calls.draws_below.Goals as goal

pub returns-then-p-le4 : goal.returns-then-p-le4
unfolding draws_below
returns-then-p-le4 c = simp (le-leb _ _ c.if-p-le4.true)

pub returns-then-p-lt8 : goal.returns-then-p-lt8
unfolding draws_below
returns-then-p-lt8 c = simp (lt-leb _ _ c.if-p-le4.false, lt-leb 8 c.args.pr (omega arith))

pub returns-then-p-gt12 : goal.returns-then-p-gt12
unfolding draws_below
returns-then-p-gt12 c =
    simp (lt-leb _ _ c.if-p-le4.false, lt-leb _ _ c.if-p-gt12.true, le-leb 8 c.args.pr (omega arith))

pub returns : goal.returns
unfolding draws_below
returns c =
    simp (lt-leb _ _ c.if-p-le4.false, le-leb _ _ c.if-p-gt12.false, le-leb 8 c.args.pr (omega arith))
