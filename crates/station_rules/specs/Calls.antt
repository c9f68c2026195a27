-- The calls on targets and requests: the checks of each in their order, and the station afterwards; planning and replies have files of their own.
use Rattle.std.specs.Prelude.{ℕ, Bool, not, ◌&&◌, ◌||◌, List, [], ◌∷◌, length, leb, None}
use Rattle.lists.specs.Lists.{count_of}
use Rattle.lists.specs.Checks.{Check, check, checked}
use Rattle.planner_rules.specs.declared.request.Request.{Request}
use Rattle.planner_rules.specs.declared.setup.Setup.{Setup}
use Rattle.planner_rules.specs.Shares.{setup_checks}
use Rattle.frames_rules.specs.Building.{is_address, selective_ranged}
use Rattle.station_rules.specs.declared.state.Targets.{Targets}
use Rattle.station_rules.specs.declared.state.Waiting.{Waiting}
use Rattle.station_rules.specs.declared.state.Station.{Station}
use Rattle.station_rules.specs.Answers.{Outcome, Report}
use Rattle.station_rules.specs.State.{targets_of, in_list, fresh, with_edges, target_at, targets_with, targets_without, targets_put, requests_of, is_of}
use Rattle.station_rules.specs.State.{waiting_with}
use Rattle.station_rules.specs.State.{waiting_without, plan_withdrawn, with_targets, with_waiting, with_plan, emptied}

-- "a refusal returns its number alone and changes nothing"
abbrev pub refused : Station → Check → Outcome
refused s c = record { number = c.number; station = s }

-- "0 means done": the call leaves this station
abbrev pub leaves : Station → Outcome
leaves s = record { number = 0; station = s }

-- ---- setup: 2 or 3, else "a setup empties everything"
unfoldable pub set_up : Station → Setup → Outcome
set_up s h = checked (setup_checks h) (refused s) (leaves (emptied h s))

-- ---- ranges
-- "near ≤ far ≤ R"
unfoldable pub target_ranged : ℕ → ℕ → ℕ → ℕ → Bool
target_ranged a near far reach = is_address a && leb near far && leb far reach

-- "unit 0 to 7", and the numbers of its interrogation in their ranges
unfoldable pub request_ranged : Request → Bool
request_ranged q = leb q.unit 7 && selective_ranged q.uf q.pc q.rr q.di q.sd q.ma q.address

-- ---- room
-- "64 targets held"
abbrev pub targets_full : Targets → Bool
targets_full t = leb 64 (length (targets_of t))

-- "16 requests of this unit waiting"
abbrev pub sixteen_wait : ℕ → Waiting → Bool
sixteen_wait u w = leb 16 (count_of (is_of u) (requests_of w))

-- that, or no slot left, which no history of calls brings about with fewer than 16
unfoldable pub unit_full : ℕ → Waiting → Bool
unit_full u w = sixteen_wait u w || leb 128 (length (requests_of w))

-- ---- new target: it is the last in the list, and nothing was heard of it
unfoldable pub new_target_checks : Station → ℕ → ℕ → ℕ → List Check
new_target_checks s a near far =
    check 2 (not (target_ranged a near far s.setup.reach))
    ∷ check 5 (in_list a s.targets)
    ∷ check 6 (targets_full s.targets)
    ∷ []

abbrev pub with_new : ℕ → ℕ → ℕ → Station → Station
with_new a near far s = with_targets (targets_with (fresh a near far) s.targets) s

unfoldable pub new_target : Station → ℕ → ℕ → ℕ → Outcome
unfolding new_target_checks
new_target s a near far = checked (new_target_checks s a near far) (refused s) (leaves (with_new a near far s))

-- ---- removal: "removal drops the target's requests and withdraws its open entries"
-- of an address alone: that of a removal and that of a report
unfoldable pub held_checks : Station → ℕ → List Check
held_checks s a = check 2 (not (is_address a)) ∷ check 4 (not (in_list a s.targets)) ∷ []

unfoldable pub without : ℕ → Station → Station
without a s =
    with_targets (targets_without a s.targets) (with_waiting (waiting_without a s.waiting) (with_plan (plan_withdrawn a s.plan) s))

unfoldable pub removed : Station → ℕ → Outcome
unfolding held_checks
removed s a = checked (held_checks s a) (refused s) (leaves (without a s))

-- ---- move: "a move changes near and far, not the present plan"
unfoldable pub move_checks : Station → ℕ → ℕ → ℕ → List Check
move_checks s a near far =
    check 2 (not (target_ranged a near far s.setup.reach)) ∷ check 4 (not (in_list a s.targets)) ∷ []

abbrev pub with_moved : ℕ → ℕ → ℕ → Station → Station
with_moved a near far s = with_targets (targets_put a (with_edges near far (target_at a s.targets)) s.targets) s

unfoldable pub moved : Station → ℕ → ℕ → ℕ → Outcome
unfolding move_checks
moved s a near far = checked (move_checks s a near far) (refused s) (leaves (with_moved a near far s))

-- ---- request: it waits as the youngest; line 6 is for a unit that is full
unfoldable pub request_checks : Bool → Station → Request → List Check
request_checks full s q =
    check 2 (not (request_ranged q)) ∷ check 4 (not (in_list q.address s.targets)) ∷ check 6 full ∷ []

abbrev pub with_request : Request → Station → Station
with_request q s = with_waiting (waiting_with q s.waiting) s

unfoldable pub requested : Station → Request → Outcome
unfolding request_checks
requested s q = checked (request_checks (unit_full q.unit s.waiting) s q) (refused s) (leaves (with_request q s))

-- ---- report: what the target said, AC and ID each with its age or never heard
abbrev pub not_reported : Check → Report
not_reported c = record { number = c.number; ac = None; id = None }

abbrev pub report_held : Station → ℕ → Report
report_held s a = record { number = 0; ac = (target_at a s.targets).ac; id = (target_at a s.targets).id }

unfoldable pub reported : Station → ℕ → Report
unfolding held_checks
reported s a = checked (held_checks s a) not_reported (report_held s a)
