-- `exports::pack` meets its contract: the number above, the value below.
use native.Mathlib.Omega.{arith}
use Rattle.exports.proofs.messages.pack.Goals as goal

pub returns-in-Ok : goal.returns-in-Ok
returns-in-Ok c = rw c.in-Ok.is (record { said = omega arith; parts = record { number = omega arith; flips = omega arith } })

pub returns-in-Err : goal.returns-in-Err
returns-in-Err c = rw c.in-Err.is (record { said = omega arith; parts = record { number = omega arith; flips = omega arith } })
