-- `station::ages::all_older` meets its contract: a map in place.
use Rattle.std.proofs.Common.{length, ap}
use Rattle.lists.proofs.Mapped.{mapped_none, mapped_more, slots_count, slots_mapped}
use Rattle.station_rules.specs.State.{older}
use Rattle.station.proofs.ages.all_older.Goals as goal

pub loop-x-init : goal.loop-x-init
loop-x-init c = mapped_none _ _

pub loop-x-preserved : goal.loop-x-preserved
loop-x-preserved c = mapped_more _ _ _ _ _ c.loop-x-test.true c.loop-x.invariant _ c.older.ensures

pub returns : goal.returns
returns c = let t = c.args.t.now in
    let n = ap length c.held-n.ensures.value in
    rw (slots_mapped older t.n t.list _ n _ _ c.loop-x-test.false c.loop-x.invariant, slots_count older t.n t.list _ n)
