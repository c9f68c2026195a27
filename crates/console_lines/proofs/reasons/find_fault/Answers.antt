-- `find_fault` looks at one word after the other.
use Rattle.console_lines.proofs.Judging.{behind_none, no_fault, at_fault, says_more}
use Rattle.console_lines.proofs.reasons.find_fault.Goals as goal

pub loop-k-init : goal.loop-k-init
loop-k-init c = behind_none _ _

pub returns-then-not-says_at : goal.returns-then-not-says_at
returns-then-not-says_at c = at_fault _ _ _ c.loop-k.invariant c.loop-k-test.true c.sort_at.ensures c.says_at.ensures c.if-not-says_at.true

pub loop-k-preserved : goal.loop-k-preserved
loop-k-preserved c = says_more _ _ _ c.loop-k.invariant c.loop-k-test.true c.sort_at.ensures c.says_at.ensures c.if-not-says_at.false

pub returns : goal.returns
returns c = no_fault _ _ _ c.loop-k.invariant c.loop-k-test.false
