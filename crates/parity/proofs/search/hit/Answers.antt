-- `parity::search::hit` meets its contract.
use mathlib.Core.Path.{sym}
use native.Mathlib.Omega.{arith}
use borrow.Author.Tests.{eq-eqb, ne_eqb}
use Rattle.parity_rules.specs.Steps.{ways}
use Rattle.parity.proofs.search.hit.Goals as goal

pub returns-then-want-eq0 : goal.returns-then-want-eq0
unfolding ways
returns-then-want-eq0 c = (sym (rw (eq-eqb c.args.want 0 c.if-want-eq0.true)), omega arith)

pub returns-else-want-eq0 : goal.returns-else-want-eq0
unfolding ways
returns-else-want-eq0 c = (sym (rw (ne_eqb c.args.want 0 c.if-want-eq0.false)), omega arith)
