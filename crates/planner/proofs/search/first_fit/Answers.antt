-- `first_fit` answers the smallest start that fits.
use native.Mathlib.Omega.{arith}
use mathlib.Core.Path.{refl, ap}
use Rattle.planner.specs.declared.exchange.Exchange.{Exchange}
use Rattle.planner.proofs.Steps.{below_first, below_more, found, none_left}
use Rattle.planner.proofs.search.first_fit.Goals as goal

pub returns-then-too_long : goal.returns-then-too_long
returns-then-too_long c = let g = c.args in
    λ es k h. none_left g.l g.a g.n es 0 c.of-p.result.to (ap (λ (r : Exchange). r.to) c.of-p.ensures.0) (omega (arith, c.if-too_long.true))
    (below_first g.l g.a g.n es)

pub loop-t-init : goal.loop-t-init
loop-t-init c = (λ es k h. below_first c.args.l c.args.a c.args.n es, omega arith)

pub loop-t-preserved : goal.loop-t-preserved
loop-t-preserved c = let g = c.args in
    let n = c.round-next.ensures in (
      λ es k h. below_more g.l g.a g.n es c.loop-t.t c.round-next.result (c.loop-t.invariant.0 es k h) (n.step g.a es c.of-p.ensures.0 refl k h),
      n.cap,
    )

pub returns-then-next-t : goal.returns-then-next-t
returns-then-next-t c = let g = c.args in
    λ es k h. found g.l g.a g.n es c.loop-t.t c.of-p.result.to (ap (λ (r : Exchange). r.to) c.of-p.ensures.0)
    (omega (arith, c.loop-t-test.true, c.if-too_long.false)) (c.loop-t.invariant.0 es k h)
    ((c.round-next.ensures.step g.a es c.of-p.ensures.0 refl k h).same c.if-next-t.true)

pub returns : goal.returns
returns c = let g = c.args in
    λ es k h. none_left g.l g.a g.n es c.loop-t.t c.of-p.result.to (ap (λ (r : Exchange). r.to) c.of-p.ensures.0)
    (omega (arith, c.loop-t-test.false, c.if-too_long.false)) (c.loop-t.invariant.0 es k h)
