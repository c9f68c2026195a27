-- A plan's answer as rows of numbers.
use Rattle.std.specs.Prelude.{ℕ, List, map}
use Rattle.planner_rules.specs.declared.entry.Entry.{Entry}
use Rattle.planner_rules.specs.declared.plan.Planned.{Planned}
use Rattle.planner_rules.specs.Exchange.{entry_at}
use Rattle.exports.specs.declared.planning.PlanRows.{PlanRows}

-- an entry of zeros
abbrev pub no_entry : Entry
no_entry = entry_at (record { request = record { unit = 0; address = 0; uf = 0; pc = 0; rr = 0; di = 0; sd = 0; ma = 0 }; near = 0; far = 0 }) 0

abbrev pub starts_of : List Entry → List ℕ
starts_of es = map (λ (e : Entry). e.start) es

abbrev pub numbers_of : List Entry → List ℕ
numbers_of es = map (λ (e : Entry). e.ask.request.ma) es

abbrev pub rows_of : Planned → PlanRows
rows_of p = record { placed = p.placed; waiting = p.waiting; starts = starts_of p.entries; numbers = numbers_of p.entries }
