-- `station::calls::add_target` meets its contract: check by check.
use Rattle.std.proofs.Common.{leb-false}
use Rattle.lists.proofs.Checks.{all, stop, end, tests}
use Rattle.station_rules.specs.Calls.{refused, new_target}
use Rattle.station.proofs.calls.add_target.Goals as goal

pub returns-then-not-target_ranged : goal.returns-then-not-target_ranged
unfolding new_target
returns-then-not-target_ranged c = stop (refused _) _ 2 all (search tests depth 12) (search tests)

pub returns-then-in_list : goal.returns-then-in_list
unfolding new_target
returns-then-in_list c = stop (refused _) _ 5 all (search tests depth 12) (search tests)

pub returns-then-is_full : goal.returns-then-is_full
unfolding new_target
returns-then-is_full c = stop (refused _) _ 6 all (search tests depth 12) (search tests)

pub push-requires : goal.push-requires
unfolding new_target
push-requires c = leb-false 64 _ (search tests)

pub returns : goal.returns
unfolding new_target
returns c = rw (c.push.ensures, c.fresh.ensures) (end (refused _) _ all (search tests depth 12))
