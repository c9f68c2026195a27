-- `fit` compares the room that the guarantees need with the period.
use Prim.Native.Nat.{ℕ, ◌+◌, ◌*◌, ◌≤◌, ◌<◌, ◌^◌}
use native.Mathlib.Omega.{arith}
use native.Mathlib.Nat.{mul-le-mul, lt_of_le_of_lt}
use lib.Dec.{lit<}
use Rattle.planner_rules.specs.Shares.{shares_fit}
use borrow.Author.Rules.{rules}
use Rattle.planner.proofs.shares.fit.Goals as goal

-- the product has room in 32 bits
product-fits : (n r : ℕ) → n ≤ 2040 → r ≤ 65535 → n * (1012 + r) < 2 ^ 32
product-fits n r p q = lt_of_le_of_lt (mul-le-mul {n₂ = 2040} {m₂ = 66547} p (omega arith)) (lit< tt)

pub overflow_mul-result : goal.overflow_mul-result
overflow_mul-result c = record { fits = product-fits c.sum.result c.wide.result c.sum.ensures.1 (search rules) }

pub returns : goal.returns
unfolding shares_fit
returns c = rw (c.sum.ensures.0, c.wide.ensures, c.wide-2.ensures)
