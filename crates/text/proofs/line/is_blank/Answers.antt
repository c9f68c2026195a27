-- A byte is a blank: each of the three tests.
use borrow.Author.Tests.{ne_eqb}
use Rattle.text_rules.specs.Line.{blank}
use Rattle.text.proofs.line.is_blank.Goals as goal

pub returns-then-b-eq32 : goal.returns-then-b-eq32
unfolding blank
returns-then-b-eq32 c = rw c.if-b-eq32.true

pub returns-then-b-eq9 : goal.returns-then-b-eq9
unfolding blank
returns-then-b-eq9 c = rw c.if-b-eq9.true

pub returns : goal.returns
unfolding blank
returns c = rw (ne_eqb _ _ c.if-b-eq32.false, ne_eqb _ _ c.if-b-eq9.false)
