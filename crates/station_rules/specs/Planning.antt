-- A plan: what the planner is asked, and the station afterwards.
use Rattle.std.specs.Prelude.{ℕ, List, map, length, replicate}
use Rattle.lists.specs.Lists.{over}
use Rattle.planner_rules.specs.declared.request.Request.{Request}
use Rattle.planner_rules.specs.declared.request.Ask.{Ask}
use Rattle.planner_rules.specs.declared.request.Asks.{Asks}
use Rattle.planner_rules.specs.declared.entry.Entry.{Entry}
use Rattle.planner_rules.specs.Plan.{Board, plan}
use Rattle.station_rules.specs.declared.state.Targets.{Targets}
use Rattle.station_rules.specs.declared.state.Plan.{Plan}
use Rattle.station_rules.specs.declared.state.Station.{Station}
use Rattle.station_rules.specs.State.{target_at, targets_older, requests_of, waiting_as, no_ask, with_targets, with_waiting, with_plan}

-- a request with near and far of its target as they are now
abbrev pub ask_for : Targets → Request → Ask
ask_for t q = record { request = q; near = (target_at q.address t).near; far = (target_at q.address t).far }

abbrev pub request_of : Ask → Request
request_of a = a.request

-- what the planner is asked: all that waits, the oldest first
unfoldable pub asked : Station → List Ask
asked s = map (ask_for s.targets) (requests_of s.waiting)

abbrev pub asks_as : List Ask → Asks
asks_as v = record { list = over v (replicate 128 no_ask); n = length v }

-- what is placed, in the order placed, and what still waits
unfoldable pub board_for : Station → Board
board_for s = plan s.setup (asked s)

-- "the new plan replaces the old one"
abbrev pub plan_with : List Entry → ℕ → Plan → Plan
plan_with v tag p = record { list = over v p.list; n = length v; tag = tag }

-- a plan is never refused: "placed requests leave the waiting list", and every age present is one more
unfoldable pub next_plan : Station → ℕ → Station
next_plan s tag =
    with_targets (targets_older s.targets)
    (with_waiting (waiting_as (map request_of (board_for s).waiting) s.waiting)
    (with_plan (plan_with (board_for s).placed tag s.plan) s))
