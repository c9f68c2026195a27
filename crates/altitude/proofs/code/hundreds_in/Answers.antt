-- `hundreds_in` turns the hundreds round where n is odd.
use Prim.Native.Nat.{◌%◌}
use native.Mathlib.Omega.{arith}
use borrow.Author.Tests.{eq-eqb, ne_eqb}
use Rattle.altitude_rules.specs.Code.{hundreds}
use Rattle.altitude.proofs.code.hundreds_in.Goals as goal

pub returns-then-n-eq1 : goal.returns-then-n-eq1
unfolding hundreds
returns-then-n-eq1 c = (simp (eq-eqb (c.args.n % 2) 1 c.if-n-eq1.true), omega arith)

pub returns : goal.returns
unfolding hundreds
returns c = (simp (ne_eqb (c.args.n % 2) 1 c.if-n-eq1.false), omega arith)
