-- Histories: the calls of a station since it was switched on. The newest call stands first.
use Rattle.std.specs.Prelude.{ℕ, List, [], ◌∷◌, ◌++◌}
use Rattle.lists.specs.Checks.{Check}
use Rattle.planner_rules.specs.declared.request.Request.{Request}
use Rattle.planner_rules.specs.declared.setup.Setup.{Setup}
use Rattle.planner_rules.specs.Shares.{setup_checks}
use Rattle.station_rules.specs.declared.state.Station.{Station}
use Rattle.station_rules.specs.Answers.{Outcome, Report}
use Rattle.station_rules.specs.State.{before_setup, emptied}
use Rattle.station_rules.specs.Calls.{leaves, set_up, unit_full, new_target_checks, with_new}
use Rattle.station_rules.specs.Calls.{new_target, held_checks, without, removed, move_checks, with_moved}
use Rattle.station_rules.specs.Calls.{moved}
use Rattle.station_rules.specs.Calls.{request_checks, with_request, requested, reported}
use Rattle.station_rules.specs.Planning.{next_plan}
use Rattle.station_rules.specs.Replies.{Received, Replied, entry_checks, settle_checks, corrected, after_reply, replied}

-- a call with all that it is given; a reply also with the buffer that it is lent
pub data Call : Type 0 where
  setup : Setup → Call
  new : ℕ → ℕ → ℕ → Call
  remove : ℕ → Call
  move : ℕ → ℕ → ℕ → Call
  request : Request → Call
  plan : ℕ → Call
  reply : Received → Call
  report : ℕ → Call

-- what an answer with more beside it says of the station
abbrev pub answer_of_reply : Replied → Outcome
answer_of_reply r = record { number = r.number; station = r.station }

abbrev pub answer_of_report : Station → Report → Outcome
answer_of_report s r = record { number = r.number; station = s }

-- the number that a call is given, and the station that it leaves
abbrev pub answer : Station → Call → Outcome
answer s (setup h) = set_up s h
answer s (new a near far) = new_target s a near far
answer s (remove a) = removed s a
answer s (move a near far) = moved s a near far
answer s (request q) = requested s q
answer s (plan tag) = leaves (next_plan s tag)
answer s (reply r) = answer_of_reply (replied s r)
answer s (report a) = answer_of_report s (reported s a)

-- the station that a history has made of that before any setup
unfoldable pub after : List Call → Station
after [] = before_setup
after (c ∷ cs) = (answer (after cs) c).station

-- ---- every call is refused by the first of its checks that is the case, or it is done
-- the checks of a call, for any station
abbrev pub checks_of : Station → Call → List Check
checks_of s (setup h) = setup_checks h
checks_of s (new a near far) = new_target_checks s a near far
checks_of s (remove a) = held_checks s a
checks_of s (move a near far) = move_checks s a near far
checks_of s (request q) = request_checks (unit_full q.unit s.waiting) s q
checks_of s (plan tag) = []
checks_of s (reply r) = entry_checks s r ++ settle_checks s r
checks_of s (report a) = held_checks s a

-- the station after a call that is done
abbrev pub next : Station → Call → Station
next s (setup h) = emptied h s
next s (new a near far) = with_new a near far s
next s (remove a) = without a s
next s (move a near far) = with_moved a near far s
next s (request q) = with_request q s
next s (plan tag) = next_plan s tag
next s (reply r) = after_reply r.entry (corrected s r).buffers.output s
next s (report a) = s
