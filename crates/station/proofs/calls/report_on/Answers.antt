-- `station::calls::report_on` meets its contract: check by check.
use Rattle.lists.proofs.Checks.{all, stop, end, tests}
use Rattle.station_rules.specs.Calls.{not_reported, reported}
use Rattle.station.proofs.calls.report_on.Goals as goal

pub returns-then-not-is_address : goal.returns-then-not-is_address
unfolding reported
returns-then-not-is_address c = stop not_reported _ 2 all (search tests depth 12) (search tests)

pub returns-then-not-in_list : goal.returns-then-not-in_list
unfolding reported
returns-then-not-in_list c = stop not_reported _ 4 all (search tests depth 12) (search tests)

pub returns : goal.returns
unfolding reported
returns c = rw c.target_at-x.ensures (end not_reported _ all (search tests depth 12))
