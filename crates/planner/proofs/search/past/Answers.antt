-- `past` goes to the first start past an overlap.
use native.Mathlib.Omega.{arith}
use mathlib.Core.Logic.{inl, inr}
use Rattle.planner.proofs.search.past.Goals as goal

pub returns-then-t-b : goal.returns-then-t-b
returns-then-t-b c = record { up = omega arith; cap = omega arith; none = λ j from to. absurd (omega arith); same = λ e. inl c.if-t-b.true }

pub returns-then-hi-t : goal.returns-then-hi-t
returns-then-hi-t c = record { up = omega arith; cap = omega arith; none = λ j from to. absurd (omega arith); same = λ e. inr c.if-hi-t.true }

pub returns : goal.returns
returns c = record { up = omega arith; cap = omega arith; none = λ j from to. omega arith; same = λ e. absurd (omega arith) }
