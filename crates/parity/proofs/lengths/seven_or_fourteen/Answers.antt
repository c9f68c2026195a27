-- `parity::lengths::seven_or_fourteen` meets its contract: the two lengths.
use mathlib.Core.Path.{sym}
use native.Mathlib.Omega.{arith}
use borrow.Author.Tests.{eq-eqb, ne_eqb}
use Rattle.parity.proofs.lengths.seven_or_fourteen.Goals as goal

pub returns-then-n-eq7 : goal.returns-then-n-eq7
returns-then-n-eq7 c = sym (rw (eq-eqb c.args.n 7 (omega arith)))

pub returns : goal.returns
returns c = sym (rw (ne_eqb c.args.n 7 c.if-n-eq7.false))
