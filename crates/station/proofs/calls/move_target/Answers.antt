-- `station::calls::move_target` meets its contract: check by check.
use Rattle.lists.proofs.Checks.{all, stop, end, tests, told_on}
use Rattle.station_rules.specs.Calls.{refused, moved}
use Rattle.station.proofs.calls.move_target.Goals as goal

pub returns-then-not-target_ranged : goal.returns-then-not-target_ranged
unfolding moved
returns-then-not-target_ranged c = stop (refused _) _ 2 all (search tests depth 12) (search tests)

pub returns-then-not-in_list : goal.returns-then-not-in_list
unfolding moved
returns-then-not-in_list c = stop (refused _) _ 4 all (search tests depth 12) (search tests)

pub put-requires : goal.put-requires
unfolding moved
put-requires c = search told_on

pub returns : goal.returns
unfolding moved
returns c = rw (c.put.ensures, c.target_at-x.ensures) (end (refused _) _ all (search tests depth 12))
