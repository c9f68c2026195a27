-- `station::waiting::count_of` meets its contract: a count over the list.
use Rattle.std.specs.Prelude.{count_by}
use Rattle.std.proofs.Common.{◌≡◌, ◌∙◌, rules}
use Rattle.lists.proofs.Library.{count_is}
use Rattle.station_rules.specs.State.{requests_of, is_of}
use Rattle.station.proofs.waiting.count_of.Goals as goal

pub returns : goal.returns
returns c = let e : c.count.result ≡ count_by (is_of c.args.unit) (requests_of c.args.w.now) = search rules in e ∙ count_is _ _
