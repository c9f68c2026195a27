-- `station::correcting::format_of` meets its contract: from the first byte.
use Rattle.std.proofs.Common.{arith}
use Rattle.station.proofs.Leaves.{format_is}
use Rattle.station.proofs.correcting.format_of.Goals as goal

pub returns : goal.returns
returns c =
    let g = c.type_inv.m in
    format_is c.args.m.now c.requires (omega (arith, g 0)) (omega (arith, g 1)) (omega (arith, g 2)) (omega (arith, g 3))
