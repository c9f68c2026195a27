-- `station::targets::put` meets its contract: written at the place found.
use Rattle.std.proofs.Common.{◌≡◌, length, set, true≢false, sym, ap, ◌∙◌, length-set}
use Rattle.lists.proofs.Over.{front_set}
use Rattle.station_rules.specs.State.{targets_of, place_in}
use Rattle.station.proofs.Held.{at_place, nowhere, place_held}
use Rattle.station.proofs.targets.put.Goals as goal

pub returns-in-Some : goal.returns-in-Some
returns-in-Some c = let t = c.args.t.now in
    let a = c.args.address in
    let y = c.args.x in
    let p = at_place a t c.find.result c.find.ensures c.in-Some.i c.in-Some.is in
    let i = place_in (targets_of t) a in
    let l = front_set t.n t.list i y (place_held a t p.1) in
    let h : length c.held-n.result.now ≡ length (set (targets_of t) i y) = ap length c.held-n.ensures.value ∙ sym (length-set (targets_of t) i y) in
    rw (p.0, l, h)

pub returns-in_default : goal.returns-in_default
returns-in_default c =
    absurd (true≢false (sym c.requires ∙ nowhere c.args.address c.args.t.now c.find.result c.find.ensures c.in_default.is))
