-- `station::entries::answer` meets its contract: the entry made anew in its place.
use Rattle.std.proofs.Common.{◌≡◌, length, get_or, set, sym, ap, ◌∙◌, arith, length-set, length-take, get_or-take}
use native.Mathlib.Nat.{min-le_left}
use Rattle.lists.proofs.Over.{front_set}
use Rattle.planner_rules.specs.declared.entry.Status.TheVariants.{Answered}
use Rattle.station_rules.specs.State.{entries_of, with_status, no_entry}
use Rattle.station.proofs.entries.answer.Goals as goal

pub returns : goal.returns
returns c = let p = c.args.p.now in
    let k = c.args.k in
    let y = with_status Answered (get_or (entries_of p) k no_entry) in
    let l = front_set p.n p.list k y c.requires in
    let h : length c.entries.result.now ≡ length (set (entries_of p) k y) = ap length c.entries.ensures.value ∙ sym (length-set (entries_of p) k y) in
    let q = get_or-take p.n p.list k no_entry (omega (arith, c.requires, length-take p.n p.list, min-le_left p.n (length p.list))) in
    rw (← q, l, h)
