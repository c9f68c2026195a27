-- `station::waiting::drop_all` meets its contract: a filter in place.
use Rattle.std.proofs.Common.{not, eqb}
use Rattle.lists.proofs.Kept.{Kept}
use Rattle.station.proofs.waiting.drop_all.Given as goal

abbrev pub invariant-loop-i : goal.invariant-loop-i
invariant-loop-i l = Kept (λ x. not (eqb x.address l.address)) l.initial.w.list l.i l.k l.w.list
