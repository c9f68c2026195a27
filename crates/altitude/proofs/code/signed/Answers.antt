-- `signed` gives the difference with its sign: both numbers are far below 2^31.
use native.Mathlib.Omega.{arith}
use Rattle.lists.proofs.Signed.{minus_fits, minus_is}
use Rattle.altitude.proofs.code.signed.Goals as goal

pub overflow_sub-result : goal.overflow_sub-result
overflow_sub-result c = minus_fits c.args.up c.args.down (omega arith) (omega arith)

pub returns : goal.returns
returns c = minus_is c.args.up c.args.down (omega arith) (omega arith)
