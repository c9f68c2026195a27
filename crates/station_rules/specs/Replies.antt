-- A reply to an entry of the plan in force: its checks in order, what it is answered, and the station afterwards.
use Rattle.std.specs.Prelude.{ℕ, ◌+◌, ◌-◌, ◌^◌, List, [], ◌∷◌, ◌++◌, Bool, true, false, not, ◌&&◌, ◌||◌, length, get_or, set, eqb, leb, ltb, ℤ, pos}
use Rattle.std.specs.Prelude.{Option, unwrap_or}
use Rattle.std.proofs.Math.IntN.{sub_ℕ}
use Rattle.lists.specs.Lists.{pick}
use Rattle.lists.specs.Checks.{Check, check, checked}
use Rattle.parity_rules.specs.Answers.{Buffers, buffers, Correction, not_corrected}
use Rattle.parity_rules.specs.Correction.{sized, matches_of, flipped_by, correction_checks}
use Rattle.frames_rules.specs.Fields.{head_of, value_at, at_ac_or_id}
use Rattle.frames_rules.specs.Formats.{length_of}
use Rattle.frames_rules.specs.Reading.{format_of}
use Rattle.frames_rules.specs.Shared.{drawn}
use Rattle.planner_rules.specs.declared.request.Request.{Request}
use Rattle.planner_rules.specs.declared.entry.Entry.{Entry}
use Rattle.planner_rules.specs.declared.entry.Status.{Status}
use Rattle.planner_rules.specs.declared.entry.Status.TheVariants.{Open, Answered, Withdrawn}
use Rattle.planner_rules.specs.Exchange.{earliest, delay, latest}
use Rattle.station_rules.specs.declared.state.Target.{Target}
use Rattle.station_rules.specs.declared.state.Targets.{Targets}
use Rattle.station_rules.specs.declared.state.Plan.{Plan}
use Rattle.station_rules.specs.declared.state.Station.{Station}
use Rattle.station_rules.specs.Answers.{Reply}
use Rattle.station_rules.specs.State.{in_list, heard, with_ac, with_id, target_at, targets_put}
use Rattle.station_rules.specs.State.{entries_of, plan_as, with_status, no_entry, with_targets, with_plan}

-- ---- what the entry's request expects
-- a request that draws nothing, which no call lets in, would expect format 0
abbrev pub format_in : Option ℕ → ℕ
format_in d = unwrap_or d 0

-- the format of the reply; its length is that of the format
unfoldable pub expected : Request → ℕ
expected q = format_in (drawn q.uf q.rr)

-- "UF 5/21 draw ID", in DF 5 and 21
abbrev pub holds_id : ℕ → Bool
holds_id f = eqb f 5 || eqb f 21

-- AC or ID of a message
unfoldable pub value_in : List ℕ → ℕ
value_in m = value_at at_ac_or_id (head_of m)

-- ---- "receiver tags are 32-bit counts that wrap. A reply's start s is tag minus plan tag on that counter"
unfoldable pub start_of : ℕ → ℕ → ℕ
start_of tag plan_tag = pick (leb plan_tag tag) (tag - plan_tag) (tag + 2 ^ 32 - plan_tag)

-- "it is taken for t+530+near ≤ s ≤ t+532+far"
unfoldable pub in_window : Entry → ℕ → Bool
in_window e s = leb (e.start + earliest + e.ask.near) s && leb s (e.start + latest + e.ask.far)

-- "measured delay is s−t−531 and may be −1"
abbrev pub delay_of : Entry → ℕ → ℤ
delay_of e s = sub_ℕ s (e.start + delay)

-- ---- what an accepted reply leaves
-- "an accepted reply sets AC or ID with age 0"
abbrev pub said_in : ℕ → ℕ → Target → Target
said_in f v t = pick (holds_id f) (with_id (heard v 0) t) (with_ac (heard v 0) t)

-- the target of the request said it; an open entry has its target in every history of calls
unfoldable pub targets_heard : Request → ℕ → Targets → Targets
targets_heard q v t =
    pick (in_list q.address t) (targets_put q.address (said_in (expected q) v (target_at q.address t)) t) t

-- the entry of a number
abbrev pub entry_numbered : ℕ → Station → Entry
entry_numbered k s = get_or (entries_of s.plan) k no_entry

-- the request of an entry
abbrev pub request_numbered : ℕ → Station → Request
request_numbered k s = (entry_numbered k s).ask.request

abbrev pub is_open : Status → Bool
is_open Open = true
is_open Answered = false
is_open Withdrawn = false

abbrev pub plan_answered : ℕ → Plan → Plan
plan_answered k p = plan_as (set (entries_of p) k (with_status Answered (get_or (entries_of p) k no_entry))) p

unfoldable pub after_reply : ℕ → List ℕ → Station → Station
after_reply k m s =
    with_targets (targets_heard (request_numbered k s) (value_in m) s.targets) (with_plan (plan_answered k s.plan) s)

-- ---- what a reply is given, and the buffers that it is lent
pub record Received : Type 0 where
  pub entry : ℕ
  pub tag : ℕ
  pub message : List ℕ
  pub marks : List ℕ
  pub buffers : Buffers

abbrev pub received : ℕ → ℕ → List ℕ → List ℕ → List ℕ → List ℕ → Received
received k tag msg marks out places = record { entry = k; tag = tag; message = msg; marks = marks; buffers = buffers out places }

-- its entry, the request of that, and its start on the plan's clock
abbrev pub entry_for : Station → Received → Entry
entry_for s r = entry_numbered r.entry s

abbrev pub request_for : Station → Received → Request
request_for s r = request_numbered r.entry s

abbrev pub start_for : Station → Received → ℕ
start_for s r = start_of r.tag s.plan.tag

-- the subsets of its marked bits that match, over the address of its entry
abbrev pub matches_for : Request → Received → List (List ℕ)
matches_for q r = matches_of r.message r.marks q.address

-- ---- its checks
-- by its entry: 8, 9, 10
unfoldable pub open_checks : Entry → ℕ → ℕ → List Check
open_checks e start n =
    check 8 (not (is_open e.status))
    ∷ check 9 (not (eqb n (length_of (expected e.ask.request))))
    ∷ check 10 (not (in_window e start))
    ∷ []

-- before the correction: 1, 7, then by its entry
unfoldable pub entry_checks : Station → Received → List Check
unfolding open_checks
entry_checks s r =
    check 1 (not (sized (length r.message) (length r.marks) (length r.buffers.output) (length r.buffers.places)))
    ∷ check 7 (not (ltb r.entry (length (entries_of s.plan))))
    ∷ open_checks (entry_for s r) (start_for s r) (length r.message)

-- 14: "corrected format not the expected one"
unfoldable pub format_checks : ℕ → List ℕ → List (List ℕ) → List Check
format_checks f msg ms = check 14 (not (eqb (format_of (flipped_by msg ms).buffers.output) f)) ∷ []

-- of a correction that must have a format: its own, then that of the format
unfoldable pub corrected_checks : ℕ → List ℕ → List ℕ → ℕ → ℕ → Buffers → List Check
unfolding correction_checks format_checks
corrected_checks f msg marks overlay limit lent =
    correction_checks msg marks overlay limit lent ++ format_checks f msg (matches_of msg marks overlay)

-- what it comes to, where a refusal leaves the buffers `left`
unfoldable pub corrected_as : ℕ → List ℕ → List ℕ → ℕ → ℕ → Buffers → Buffers → Correction
unfolding corrected_checks
corrected_as f msg marks overlay limit lent left =
    checked (corrected_checks f msg marks overlay limit lent) (not_corrected left) (flipped_by msg (matches_of msg marks overlay))

-- for the request of its entry, over that one's address, by the station's limit
abbrev pub settle_checks : Station → Received → List Check
settle_checks s r =
    let q = request_for s r in
    corrected_checks (expected q) r.message r.marks q.address s.setup.limit r.buffers

-- ---- what the caller is told, what the buffers then hold, and the station afterwards
pub record Replied : Type 0 where
  pub number : ℕ
  pub flips : ℕ
  pub delay : ℤ
  pub buffers : Buffers
  pub station : Station

abbrev pub told : Reply → Buffers → Replied
told r b = record { number = r.number; flips = r.flips; delay = r.delay; buffers = b; station = r.station }

-- "a refusal returns its number alone and changes nothing, neither state nor lent buffers"
abbrev pub refused_reply : Station → Buffers → Check → Replied
refused_reply s b c = record { number = c.number; flips = 0; delay = pos 0; buffers = b; station = s }

-- a reply that is taken with a correction
abbrev pub taken_as : Station → Received → Correction → Replied
taken_as s r o =
    record {
      number = 0;
      flips = o.flips;
      delay = delay_of (entry_for s r) (start_for s r);
      buffers = o.buffers;
      station = after_reply r.entry o.buffers.output s;
    }

-- the message with the one subset flipped, and the places of that subset
abbrev pub corrected : Station → Received → Correction
corrected s r = flipped_by r.message (matches_for (request_for s r) r)

-- by the correction
unfoldable pub settled : Station → Received → Replied
unfolding corrected_checks
settled s r = checked (settle_checks s r) (refused_reply s r.buffers) (taken_as s r (corrected s r))

-- a reply
unfoldable pub replied : Station → Received → Replied
unfolding entry_checks
replied s r = checked (entry_checks s r) (refused_reply s r.buffers) (settled s r)
