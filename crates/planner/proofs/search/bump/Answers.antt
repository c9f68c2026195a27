-- `bump` goes past each overlap with an entry in turn.
use native.Mathlib.Omega.{arith}
use mathlib.Core.Path.{sym, ◌∙◌}
use Rattle.planner.proofs.Steps.{one_aircraft, two_aircraft}
use Rattle.planner.proofs.search.bump.Goals as goal

pub returns-then-address-its : goal.returns-then-address-its
returns-then-address-its c = let g = c.args in
    record {
      up = omega (arith, c.past-t1.ensures.up, c.past-t2.ensures.up, c.past-t3.ensures.up, c.past-t4.ensures.up, c.past.ensures.up);
      cap = c.past.ensures.cap;
      step =
          λ a e x y h1 h2 h3 h4 h5. one_aircraft a e g.t g.p g.at g.sent g.from g.end x h1 h2 h3 h4 c.past-t1.result c.past-t2.result
          c.past-t3.result c.past-t4.result c.past.result c.past-t1.ensures c.past-t2.ensures c.past-t3.ensures c.past-t4.ensures
          (sym y ∙ c.if-address-its.true ∙ h5) c.past.ensures;
    }

pub returns : goal.returns
returns c = let g = c.args in
    record {
      up = omega (arith, c.past-t1.ensures.up, c.past-t2.ensures.up, c.past-t3.ensures.up, c.past-t4.ensures.up);
      cap = c.past-t4.ensures.cap;
      step =
          λ a e x y h1 h2 h3 h4 h5. two_aircraft a e g.t g.p g.at g.sent g.from g.end x h1 h2 h3 h4 c.past-t1.result c.past-t2.result
          c.past-t3.result c.past-t4.result c.past-t1.ensures c.past-t2.ensures c.past-t3.ensures c.past-t4.ensures
          (λ q. c.if-address-its.false (y ∙ q ∙ sym h5));
    }
