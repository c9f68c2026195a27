-- A letter raised to upper case.
use borrow.Author.Tests.{lt-ltb, le-ltb}
use Rattle.text_rules.specs.Hex.{upper_of}
use Rattle.text.proofs.hex.upper.Goals as goal

pub returns-then-b-lt97 : goal.returns-then-b-lt97
unfolding upper_of
returns-then-b-lt97 c = rw (lt-ltb _ _ c.if-b-lt97.true)

pub returns-else-b-lt97 : goal.returns-else-b-lt97
unfolding upper_of
returns-else-b-lt97 c = rw (le-ltb _ _ c.if-b-lt97.false)
