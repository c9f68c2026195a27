-- `code_by_100` splits the hundreds into five hundreds, in Gray code, and the pattern of the rest.
use Prim.Native.Nat.{◌+◌, ◌%◌, ◌/◌}
use native.Mathlib.Omega.{arith}
use Rattle.altitude_rules.proofs.Reckoned.{turned_le, hundred_is}
use Rattle.altitude.proofs.way_back.code_by_100.Goals as goal

pub bounds-at : goal.bounds-at
bounds-at c =
    let s = c in
    let k = s.args.k in
    omega (arith, c.hundreds_in-at.ensures.0, turned_le (k / 5) (k % 5 + 1) (omega arith) (omega arith))

pub returns : goal.returns
returns c =
    let h = c in
    hundred_is _ _ h.hundreds_in-at.ensures.0 c.eight_placed.ensures.0 c.three_placed.ensures.0
