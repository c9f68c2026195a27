-- `station::targets::target_at` meets its contract: a read at the place found.
use Rattle.std.proofs.Common.{◌≤◌, length, sym, ◌∙◌}
use borrow.Author.Tests.{ltb-false}
use lib.ListN.{get_or-eq_default}
use Rattle.station_rules.specs.State.{targets_of, place_in, fresh}
use Rattle.station.proofs.Held.{at_place, nowhere}
use Rattle.station.proofs.targets.target_at.Goals as goal

pub returns-in-Some : goal.returns-in-Some
returns-in-Some c = let a = c.args.address in
    let t = c.args.t.now in
    let p = at_place a t c.find.result c.find.ensures c.in-Some.i c.in-Some.is in
    rw (c.held.ensures.value, p.0)

pub returns-in-None : goal.returns-in-None
returns-in-None c = let a = c.args.address in
    let t = c.args.t.now in
    let h : length (targets_of t) ≤ place_in (targets_of t) a = ltb-false _ _ (nowhere a t c.find.result c.find.ensures c.in-None.is) in
    c.fresh.ensures ∙ sym (get_or-eq_default (targets_of t) (fresh 0 0 0) {n = place_in (targets_of t) a} h)
