-- `station::calls::remove_target` meets its contract: check by check.
use Rattle.lists.proofs.Checks.{all, stop, end, tests}
use Rattle.station_rules.specs.Calls.{refused, removed, without}
use Rattle.station.proofs.calls.remove_target.Goals as goal

pub returns-then-not-is_address : goal.returns-then-not-is_address
unfolding removed without
returns-then-not-is_address c = stop (refused _) _ 2 all (search tests depth 12) (search tests)

pub returns-then-not-in_list : goal.returns-then-not-in_list
unfolding removed without
returns-then-not-in_list c = stop (refused _) _ 4 all (search tests depth 12) (search tests)

pub returns : goal.returns
unfolding removed without
returns c = rw (c.withdraw_all.ensures, c.drop_all-2.ensures, c.drop_all.ensures)
    (end (refused _) _ all (search tests depth 12))
