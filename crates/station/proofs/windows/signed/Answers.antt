-- `station::windows::signed` meets its contract: both numbers are far below 2^31.
use Rattle.std.proofs.Common.{arith}
use Rattle.lists.proofs.Signed.{minus_fits, minus_is}
use Rattle.station.proofs.windows.signed.Goals as goal

pub overflow_sub-result : goal.overflow_sub-result
overflow_sub-result c = minus_fits c.args.up c.args.down (omega arith) (omega arith)

pub returns : goal.returns
returns c = minus_is c.args.up c.args.down (omega arith) (omega arith)
