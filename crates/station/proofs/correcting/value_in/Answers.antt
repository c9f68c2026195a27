-- `station::correcting::value_in` meets its contract: from the third and fourth byte.
use Rattle.std.proofs.Common.{arith}
use Rattle.station.proofs.Leaves.{value_is}
use Rattle.station.proofs.correcting.value_in.Goals as goal

pub returns : goal.returns
returns c =
    let g = c.type_inv.m in
    value_is c.args.m.now c.requires (omega (arith, g 2)) (omega (arith, g 3))
