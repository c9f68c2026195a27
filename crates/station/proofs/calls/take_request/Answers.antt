-- `station::calls::take_request` meets its contract: check by check.
use Rattle.std.proofs.Common.{sym, ◌∙◌}
use Rattle.lists.proofs.Checks.{all, stop, end, tests}
use Rattle.station_rules.specs.Calls.{refused, requested}
use Rattle.station.proofs.Held.{slot_left}
use Rattle.station.proofs.calls.take_request.Goals as goal

pub returns-then-not-request_ranged : goal.returns-then-not-request_ranged
unfolding requested
returns-then-not-request_ranged c = stop (refused _) _ 2 all (search tests depth 12) (search tests)

pub returns-then-not-in_list : goal.returns-then-not-in_list
unfolding requested
returns-then-not-in_list c = stop (refused _) _ 4 all (search tests depth 12) (search tests)

pub returns-then-unit_full : goal.returns-then-unit_full
unfolding requested
returns-then-unit_full c = stop (refused _) _ 6 all (search tests depth 12) (search tests)

pub push-requires : goal.push-requires
unfolding requested
push-requires c = slot_left _ _ (sym c.unit_full.ensures ∙ c.if-unit_full.false)

pub returns : goal.returns
unfolding requested
returns c = rw c.push.ensures (end (refused _) _ all (search tests depth 12))
