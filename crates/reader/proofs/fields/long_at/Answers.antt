-- `long_at` reads a number of at most four bytes.
use native.Mathlib.Omega.{arith}
use Rattle.reader.proofs.Numbers.{bytes_below}
use Rattle.reader.proofs.fields.long_at.Goals as goal

pub overflow_cast-result : goal.overflow_cast-result
overflow_cast-result c = omega (arith, bytes_below c.args.k 4 (omega arith))
