-- `message_length` tests for the long reply.
use native.Mathlib.Omega.{arith}
use borrow.Author.Tests.{eq-eqb, ne_eqb}
use Rattle.reader_rules.specs.Records.{message_length}
use Rattle.reader.proofs.kinds.message_length.Goals as goal

pub returns-then-kind-eq7 : goal.returns-then-kind-eq7
unfolding message_length
returns-then-kind-eq7 c = (simp (eq-eqb _ _ c.if-kind-eq7.true), omega arith)

pub returns : goal.returns
unfolding message_length
returns c = (simp (ne_eqb _ _ c.if-kind-eq7.false), omega arith)
