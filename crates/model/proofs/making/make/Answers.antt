-- `model::making::make` meets its contract: by the ranges.
use Prim.Native.Nat.{◌≤◌}
use native.Mathlib.Omega.{arith}
use borrow.Author.Tests.{not-false}
use Rattle.lists.proofs.Checks.{all, stop, end, tests}
use Rattle.model_rules.specs.Calls.{not_made, making}
use Rattle.model.proofs.Slots.{make_in}
use Rattle.model.proofs.making.make.Goals as goal
use Rattle.model.proofs.making.make.Goals.{Else-not-make_ranged}

-- the numbers are in their ranges
ranged : (c : Else-not-make_ranged) → let a = c.args in (a.ac ≤ 8191) × (a.id ≤ 8191) × (a.fs ≤ 7) × (a.ca ≤ 7)
ranged c = let a = c.args in make_in a.address a.ac a.id a.fs a.ca (search (tests, not-false))

pub returns-then-not-make_ranged : goal.returns-then-not-make_ranged
unfolding making
returns-then-not-make_ranged c = stop not_made _ 2 all (search tests depth 12) (search tests)

pub overflow_cast-ac : goal.overflow_cast-ac
unfolding making
overflow_cast-ac c = let r = ranged c in omega arith

pub overflow_cast-id : goal.overflow_cast-id
unfolding making
overflow_cast-id c = let r = ranged c in omega arith

pub overflow_cast-fs : goal.overflow_cast-fs
unfolding making
overflow_cast-fs c = let r = ranged c in omega arith

pub overflow_cast-ca : goal.overflow_cast-ca
unfolding making
overflow_cast-ca c = let r = ranged c in omega arith

pub returns : goal.returns
unfolding making
returns c = rw c.newborn.ensures (end not_made _ all (search tests depth 12))
