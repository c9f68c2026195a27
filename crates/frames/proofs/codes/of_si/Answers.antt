-- `frames::codes::of_si` meets its contract: both ends.
use native.Mathlib.Omega.{arith}
use borrow.Author.Tests.{le-leb, lt-leb}
use Rattle.frames.proofs.codes.of_si.Goals as goal

pub returns-then-cl-eq0 : goal.returns-then-cl-eq0
returns-then-cl-eq0 c = simp (lt-leb 1 c.args.cl (omega arith))

pub returns : goal.returns
returns c = simp (le-leb 1 c.args.cl (omega arith))
