-- `Exchange::reply` is the reply's length by RR.
use native.Mathlib.Omega.{arith}
use borrow.Author.Tests.{le-leb, lt-leb}
use Rattle.planner_rules.specs.Exchange.{reply_for}
use Rattle.planner.proofs.exchange.Exchange.reply.Goals as goal

pub returns-then-rr-ge16 : goal.returns-then-rr-ge16
unfolding reply_for
returns-then-rr-ge16 c = (simp (le-leb _ _ c.if-rr-ge16.true), omega arith)

pub returns : goal.returns
unfolding reply_for
returns c = (simp (lt-leb _ _ c.if-rr-ge16.false), omega arith)
