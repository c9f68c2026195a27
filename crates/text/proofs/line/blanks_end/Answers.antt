-- The end of a run of blanks.
use borrow.Author.Tests.{not-true, not-false}
use Rattle.lists.proofs.Checks.{told}
use Rattle.text.proofs.Ends.{ends}
use Rattle.text.proofs.line.blanks_end.Goals as goal

pub returns-then-not-is_blank : goal.returns-then-not-is_blank
returns-then-not-is_blank c = search (ends, told, not-true, not-false)

pub loop-i-preserved : goal.loop-i-preserved
loop-i-preserved c = search (ends, told, not-true, not-false)

pub returns : goal.returns
returns c = search ends
