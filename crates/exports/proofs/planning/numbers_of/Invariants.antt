-- `numbers_of` is the MA of the entries.
use mathlib.Core.Path.{◌≡◌}
use lib.ListN.{length}
use Rattle.lists.proofs.Copied.{Copied}
use Rattle.planner_rules.specs.declared.entry.Entry.{Entry}
use Rattle.exports.proofs.planning.numbers_of.Given as goal

abbrev pub invariant-loop-i : goal.invariant-loop-i
invariant-loop-i l = Copied (λ (e : Entry). e.ask.request.ma) l.entries l.initial.r l.i l.r × (length l.entries ≡ 128) × (length l.initial.r ≡ 128)
