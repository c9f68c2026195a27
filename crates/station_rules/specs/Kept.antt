-- What every history of calls keeps true of the station.
use Rattle.std.specs.Prelude.{ℕ, ◌≤◌, ◌≡◌, true}
use Rattle.lists.specs.Lists.{All, count_of}
use Rattle.planner_rules.specs.declared.request.Request.{Request}
use Rattle.planner_rules.specs.declared.entry.Entry.{Entry}
use Rattle.planner_rules.specs.Shares.{setup_number}
use Rattle.station_rules.specs.declared.state.Target.{Target}
use Rattle.station_rules.specs.declared.state.Targets.{Targets}
use Rattle.station_rules.specs.declared.state.Station.{Station}
use Rattle.station_rules.specs.State.{targets_of, requests_of, entries_of, in_list, is_of}
use Rattle.station_rules.specs.Calls.{request_ranged}
use Rattle.station_rules.specs.Replies.{is_open}

-- "near ≤ far ≤ R"
abbrev pub InReach : ℕ → Target → Type 0
InReach R t = (t.near ≤ t.far) × (t.far ≤ R)

-- a request that waits has its numbers in their ranges, and its target is held
abbrev pub Waits : Targets → Request → Type 0
Waits t q = (request_ranged q ≡ true) × (in_list q.address t ≡ true)

-- an entry is of a request that was taken, and while it is open its target is held
abbrev pub Entered : Targets → Entry → Type 0
Entered t e = (request_ranged e.ask.request ≡ true) × (is_open e.status ≡ true → in_list e.ask.request.address t ≡ true)

-- the setup was accepted, as that before any setup would be; every target is in reach; every waiting request has its target; no unit has more than 16
-- waiting; and every entry is of a request that was taken, its target held while it is open
pub record Kept (s : Station) : Type 0 where
  pub shares : setup_number s.setup ≡ 0
  pub reach : All (InReach s.setup.reach) (targets_of s.targets)
  pub waiting : All (Waits s.targets) (requests_of s.waiting)
  pub sixteen : (u : ℕ) → count_of (is_of u) (requests_of s.waiting) ≤ 16
  pub entries : All (Entered s.targets) (entries_of s.plan)
