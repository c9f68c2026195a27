-- `no_targets` gives slots that all hold the same, and keeps them so.
use Rattle.std.proofs.Common.{◌/◌}
use Rattle.lists.proofs.Same.{same_set}
use Rattle.station.proofs.setting.no_targets.Goals as goal

pub loop-i-preserved : goal.loop-i-preserved
loop-i-preserved c =
    let x = c.fresh-x.result in
    rw c.loop-i.invariant (same_set 64 x (c.loop-i.i / 2))

pub returns : goal.returns
returns c = rw (c.loop-i.invariant, c.fresh-x.ensures)
