-- `station::windows::start_of` meets its contract: the difference on a counter of 32 bits.
use Rattle.station.proofs.Ticks.{start_is}
use Rattle.std.proofs.Common.{rules}
use Rattle.station.proofs.windows.start_of.Goals as goal

pub returns : goal.returns
returns c = start_is c.args.tag c.args.from c.wrapping_sub_u32.result (search rules) (search rules) c.wrapping_sub_u32.ensures.value
