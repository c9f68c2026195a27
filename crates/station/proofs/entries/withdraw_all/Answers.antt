-- `station::entries::withdraw_all` meets its contract: a map in place.
use Rattle.std.proofs.Common.{length, ap}
use Rattle.lists.proofs.Mapped.{mapped_none, mapped_more, slots_count, slots_mapped}
use Rattle.station_rules.specs.State.{withdrawn}
use Rattle.station.proofs.entries.withdraw_all.Goals as goal

pub loop-e-init : goal.loop-e-init
loop-e-init c = mapped_none _ _

pub loop-e-preserved : goal.loop-e-preserved
loop-e-preserved c = mapped_more _ _ _ _ _ c.loop-e-test.true c.loop-e.invariant _ c.withdraw.ensures

pub returns : goal.returns
returns c = let t = c.args.p.now in
    let n = ap length c.entries-n.ensures.value in
    let l = slots_mapped (withdrawn c.args.address) t.n t.list _ n _ _ c.loop-e-test.false c.loop-e.invariant in
    let k = slots_count (withdrawn c.args.address) t.n t.list _ n in
    rw (l, k)
