-- `frames::builders::is_address` meets its contract: both ends.
use native.Mathlib.Omega.{arith}
use borrow.Author.Tests.{le-leb, lt-leb}
use Rattle.frames.proofs.builders.is_address.Goals as goal

pub returns-then-a-eq0 : goal.returns-then-a-eq0
returns-then-a-eq0 c = simp (lt-leb 1 c.args.a (omega arith))

pub returns : goal.returns
returns c = simp (le-leb 1 c.args.a (omega arith))
