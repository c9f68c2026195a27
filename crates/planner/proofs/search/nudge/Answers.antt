-- `nudge` is `bump` on a row, with two quick answers.
use native.Mathlib.Omega.{arith}
use Rattle.planner.proofs.Steps.{entry_over, request_over}
use Rattle.planner.proofs.search.nudge.Goals as goal

pub returns-then-end-t : goal.returns-then-end-t
returns-then-end-t c = let g = c.args in
    record {
      up = omega arith;
      cap = c.requires.0;
      step = λ a e x y h. entry_over a e g.t g.p _ _ _ _ x h.start h.sent h.from h.end c.requires.0 c.if-end-t.true;
    }

pub returns-then-t-p : goal.returns-then-t-p
returns-then-t-p c = let g = c.args in
    record {
      up = omega arith;
      cap = c.requires.0;
      step = λ a e x y h. request_over a e g.t g.p _ _ _ _ x h.start h.sent h.from h.end c.requires.0 c.if-t-p.true;
    }

pub returns : goal.returns
returns c = let b = c.bump.ensures in
    record {
      up = b.up;
      cap = b.cap;
      step = λ a e x y h. b.step a e x y h.start h.sent h.from h.end h.address;
    }
