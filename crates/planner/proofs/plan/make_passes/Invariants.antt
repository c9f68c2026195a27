-- `make_passes` makes the nine passes one after the other.
use Rattle.planner.proofs.Passing.{Turning}
use Rattle.planner.proofs.plan.make_passes.Given as goal

abbrev pub invariant-loop-u : goal.invariant-loop-u
invariant-loop-u l = Turning l.l l.s.guarantee l.n l.initial.r.entries l.initial.r.asks l.u l.r l.rows l.counts
