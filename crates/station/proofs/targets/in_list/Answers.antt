-- `station::targets::in_list` meets its contract: whether a place is found.
use Rattle.std.specs.Prelude.{Option, is_some}
use Rattle.std.proofs.Common.{ap, ◌∙◌, ℕ}
use Rattle.station.proofs.Held.{is_held}
use Rattle.station.proofs.targets.in_list.Goals as goal

pub returns : goal.returns
returns c = c.is_some.ensures ∙ ap (λ (o : Option ℕ). is_some o) c.find.ensures ∙ is_held c.args.address c.args.t.now
