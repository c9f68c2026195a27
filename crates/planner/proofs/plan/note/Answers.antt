-- `note` writes the five numbers of a row.
use native.Mathlib.Omega.{arith}
use mathlib.Core.Path.{ap}
use Rattle.planner.specs.declared.exchange.Exchange.{Exchange}
use Rattle.planner.specs.Promises.{noted}
use Rattle.planner.proofs.plan.note.Goals as goal

pub returns : goal.returns
unfolding noted
returns c =
    let w = c.wide-at.ensures in
    let o = c.of-q.ensures in let to = ap (λ (r : Exchange). r.to) o.0 in (rw (w, o.0), omega (arith, w, o.1.to, to))
