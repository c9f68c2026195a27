-- `within` answers no more than the piece has.
use native.Mathlib.Omega.{arith}
use Rattle.io.proofs.Counting.{prefix_len_of_le}
use Rattle.inputs.proofs.feed.within.Goals as goal

pub returns-then-piece-got : goal.returns-then-piece-got
returns-then-piece-got c = record { prefix_len = prefix_len_of_le _ _ (omega arith); value = omega arith }

pub returns : goal.returns
returns c = record { prefix_len = prefix_len_of_le _ _ (omega arith); value = omega arith }
