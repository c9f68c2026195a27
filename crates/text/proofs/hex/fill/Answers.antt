-- Bytes laid one by one, each from its two digits: what is still to be laid decides.
use Prim.Native.Nat.{◌<◌}
use native.Mathlib.Omega.{arith}
use Rattle.text.proofs.HexLoops.{high_small, low_small, pairs_on, pairs_more, pairs_end}
use Rattle.text.proofs.hex.fill.Goals as goal
use Rattle.text.proofs.hex.fill.Goals.{After-hex_value-low}

-- both digits count less than 16
two : (c : After-hex_value-low) → (c.hex_value-high.result < 16) × (c.hex_value-low.result < 16)
two c = (search high_small, search low_small)

pub overflow_mul-out : goal.overflow_mul-out
overflow_mul-out c = omega (arith, two c)

pub overflow_add-out : goal.overflow_add-out
overflow_add-out c = omega (arith, two c)

pub loop-i-preserved : goal.loop-i-preserved
loop-i-preserved c = (search pairs_more, search pairs_on)

pub returns : goal.returns
returns c = search pairs_end
