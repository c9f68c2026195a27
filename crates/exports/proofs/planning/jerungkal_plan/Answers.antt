-- `jerungkal_plan` is the plan of `make_plan` as rows of numbers.
use mathlib.Core.Path.{ap, ◌∙◌}
use lib.ListN.{replicate}
use Rattle.planner_rules.specs.declared.entry.Entry.{Entry}
use Rattle.planner_rules.specs.Plan.{plan, asks_of, in_slots}
use Rattle.exports.specs.Planner.{rows_of}
use Rattle.exports.proofs.planning.jerungkal_plan.Goals as goal

pub returns : goal.returns
returns c = let e = ap (λ (x : Entry). in_slots (plan c.args.j.setup (asks_of c.args.j.asks)) (replicate 128 x) c.args.j.asks.list)
    c.no_entry.ensures in
    rw (c.starts_of-starts.ensures, c.numbers_of-numbers.ensures) (ap rows_of (c.make_plan-p.ensures ∙ e))
