-- `judge` makes the checks of a setup in their order.
use Rattle.planner_rules.specs.Shares.{setup_number}
use Rattle.lists.specs.Checks.{Check}
use Rattle.lists.proofs.Checks.{all, stop, end, tests}
use Rattle.planner.proofs.shares.judge.Goals as goal

pub returns-then-not-setup_ranged : goal.returns-then-not-setup_ranged
unfolding setup_number
returns-then-not-setup_ranged c = stop (λ (x : Check). x.number) 0 2 all (search tests depth 12) (search tests)

pub returns-then-not-shares_good : goal.returns-then-not-shares_good
unfolding setup_number
returns-then-not-shares_good c = stop (λ (x : Check). x.number) 0 3 all (search tests depth 12) (search tests)

pub returns : goal.returns
unfolding setup_number
returns c = end (λ (x : Check). x.number) 0 all (search tests depth 12)
