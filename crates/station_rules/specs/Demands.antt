-- The demands, each as one record over every history: what its theorem in proofs/ shows.
use Rattle.std.specs.Prelude.{ℕ, ◌+◌, ◌≤◌, ◌≡◌, ◌↔◌, List, map, length, eqb, ℤ, pos, negsuc, ◌-ℤ◌, ◌≤ℤ◌}
use Rattle.std.proofs.Math.IntN.{sub_ℕ}
use Rattle.lists.specs.Lists.{pick}
use Rattle.parity_rules.specs.Corrected.{Corrected}
use Rattle.frames_rules.specs.Reading.{format_of}
use Rattle.planner_rules.specs.declared.entry.Entry.{Entry}
use Rattle.planner_rules.specs.Exchange.{reply_short, reply_long, listens}
use Rattle.planner_rules.specs.Demand3.{Demand3}
use Rattle.station_rules.specs.declared.state.Station.{Station}
use Rattle.station_rules.specs.State.{entries_of, requests_of}
use Rattle.station_rules.specs.Calls.{reported}
use Rattle.station_rules.specs.Planning.{asked, ask_for, next_plan}
use Rattle.station_rules.specs.Replies.{Received, Replied, request_for, expected, replied}
use Rattle.station_rules.specs.History.{Call, answer, after}
use Rattle.lists.specs.Checks.{given}
use Rattle.station_rules.specs.Numbers.{checks}
use Rattle.station_rules.specs.Seen.{Kind, events, last_said, shown, report_of}

-- demand 1: each number is given exactly when the table says, and a refusal changes nothing, neither the station nor a lent buffer
pub record Demand1 (cs : List Call) : Type 0 where
  pub numbers : (c : Call) → (answer (after cs) c).number ≡ given (checks (after cs) c)
  pub unchanged : (c : Call) → ((answer (after cs) c).number ≡ 0 → ⊥) → (answer (after cs) c).station ≡ after cs
  pub unwritten : (r : Received) → ((replied (after cs) r).number ≡ 0 → ⊥) → (replied (after cs) r).buffers ≡ r.buffers

-- demand 2, ages: a report gives the value that the aircraft last said and the number of plans since; it is never heard exactly if it never said one
pub record Ages (cs : List Call) : Type 0 where
  pub told : (i : Kind) (a : ℕ) → (reported (after cs) a).number ≡ 0 → report_of i (reported (after cs) a) ≡ shown (last_said i a (events cs))

-- demand 2, replies: what a taken reply writes is the one message that differs from what came in at marked places only and has the entry's address as
-- its overlay; its places are those where the two differ, and its flips are the number of places marked; its format is the expected one
pub record Believed (s : Station) (r : Received) (a : Replied) : Type 0 where
  pub corrected : Corrected r.message r.marks (request_for s r).address a.flips a.buffers
  pub format : format_of a.buffers.output ≡ expected (request_for s r)

-- how many ticks a reply lasts: "replies 256 short and 480 long", by its bytes
abbrev pub lasts : List ℕ → ℕ
lasts msg = pick (eqb (length msg) 14) reply_long reply_short

-- demand 2, replies: one that begins s ticks after the plan's tag and is taken for the entry lies whole in the window in which the entry listens;
-- "measured delay is s−t−531 and may be −1", from one less than near to one more than far
pub record InTime (e : Entry) (s : ℕ) (msg : List ℕ) (delay : ℤ) : Type 0 where
  pub begins : (listens e).lo ≤ s
  pub ends : s + lasts msg ≤ (listens e).hi
  pub measured : delay ≡ pos s -ℤ pos e.start -ℤ pos 531
  pub minus_one : (delay ≡ negsuc 0) ↔ (s + 1 ≡ e.start + 531)
  pub least : sub_ℕ e.ask.near 1 ≤ℤ delay
  pub most : delay ≤ℤ pos (e.ask.far + 1)

-- demand 3: every plan meets Demand3 against the waiting list that it was made from, in the first period and in every later one
pub record Plans (cs : List Call) : Type 0 where
  pub demand : (tag : ℕ)
      → Demand3 (after cs).setup (asked (after cs)) (entries_of (next_plan (after cs) tag).plan)
      (map (ask_for (after cs).targets) (requests_of (next_plan (after cs) tag).waiting))
