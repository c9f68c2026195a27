-- `Exchange::of` is the exchange of a request.
use borrow.Author.Tests.{le-leb, lt-leb}
use Rattle.planner_rules.specs.Exchange.{sent_for}
use Rattle.planner.proofs.exchange.Exchange.of.Goals as goal

pub returns-then-a-ge20 : goal.returns-then-a-ge20
unfolding sent_for
returns-then-a-ge20 c = (simp (le-leb _ _ c.if-a-ge20.true) c.long.ensures.0, c.long.ensures.1)

pub returns : goal.returns
unfolding sent_for
returns c = (simp (lt-leb _ _ c.if-a-ge20.false) c.short.ensures.0, c.short.ensures.1)
