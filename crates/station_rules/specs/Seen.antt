-- What a caller has seen of a history, and from that alone what an aircraft last said and how many plans ago. Nothing here knows the station's state
-- but through what its calls tell.
use Rattle.std.specs.Prelude.{ℕ, suc, min, List, [], ◌∷◌, map, Bool, not, ◌&&◌, eqb, get_or, Option, None}
use Rattle.lists.specs.Lists.{pick}
use Rattle.planner_rules.specs.declared.request.Ask.{Ask}
use Rattle.planner_rules.specs.declared.setup.Setup.{Setup}
use Rattle.planner_rules.specs.Demand3.{ask_of}
use Rattle.station_rules.specs.declared.state.Heard.{Heard}
use Rattle.station_rules.specs.declared.state.Station.{Station}
use Rattle.station_rules.specs.Answers.{Report}
use Rattle.station_rules.specs.State.{heard, entries_of, no_ask, before_setup}
use Rattle.station_rules.specs.Planning.{next_plan}
use Rattle.station_rules.specs.Replies.{expected, holds_id, value_in, Received, replied}
use Rattle.station_rules.specs.History.{Call, setup, new, remove, move, request, plan, reply, report, answer, after}

-- ---- what a call that is done does, as its caller sees it: a setup empties all; a target comes or goes, and what it said is gone; a plan is made, with what
-- each entry asks; the reply to an entry is taken, with the corrected message; or none of these
pub data Effect : Type 0 where
  empties : Effect
  gone : ℕ → Effect
  planned : List Ask → Effect
  spoke : ℕ → List ℕ → Effect
  none : Effect

-- of each call, by the plan that it makes and the message that it corrects
abbrev pub effect_by : (ℕ → List Ask) → (Received → List ℕ) → Call → Effect
effect_by made corrects (setup h) = empties
effect_by made corrects (new a near far) = gone a
effect_by made corrects (remove a) = gone a
effect_by made corrects (move a near far) = none
effect_by made corrects (request q) = none
effect_by made corrects (plan tag) = planned (made tag)
effect_by made corrects (reply r) = spoke r.entry (corrects r)
effect_by made corrects (report a) = none

abbrev pub effect : Station → Call → Effect
effect s c = effect_by (λ tag. map ask_of (entries_of (next_plan s tag).plan)) (λ r. (replied s r).buffers.output) c

-- "a refusal .. changes nothing"
abbrev pub seen_as : ℕ → Effect → Effect
seen_as number e = pick (eqb number 0) e none

unfoldable pub events : List Call → List Effect
events [] = []
events (c ∷ cs) = seen_as (answer (after cs) c).number (effect (after cs) c) ∷ events cs

-- ---- what each entry of the newest plan asks
abbrev pub asks_after : Effect → List Ask → List Ask
asks_after empties old = []
asks_after (gone a) old = old
asks_after (planned asks) old = asks
asks_after (spoke k m) old = old
asks_after none old = old

unfoldable pub in_force : List Effect → List Ask
in_force [] = []
in_force (e ∷ h) = asks_after e (in_force h)

-- ---- what an aircraft last said, and how many plans were made since
pub data Kind : Type 0 where
  AC : Kind
  ID : Kind

pub data Said : Type 0 where
  never : Said
  said : ℕ → ℕ → Said

abbrev pub one_plan_more : Said → Said
one_plan_more never = never
one_plan_more (said v n) = said v (suc n)

-- whether a request draws that kind
abbrev pub draws : Kind → Bool → Bool
draws AC is_id = not is_id
draws ID is_id = is_id

-- the reply to an entry that asks this is from this aircraft and of this kind
abbrev pub is_from : Kind → ℕ → Ask → Bool
is_from i a q = eqb q.request.address a && draws i (holds_id (expected q.request))

-- a taken reply says its value, a plan is one more, and what was said is gone with the target or with a setup
abbrev pub said_after : Kind → ℕ → List Ask → Effect → Said → Said
said_after i a force empties old = never
said_after i a force (gone b) old = pick (eqb b a) never old
said_after i a force (planned asks) old = one_plan_more old
said_after i a force (spoke k m) old = pick (is_from i a (get_or force k no_ask)) (said (value_in m) 0) old
said_after i a force none old = old

unfoldable pub last_said : Kind → ℕ → List Effect → Said
last_said i a [] = never
last_said i a (e ∷ h) = said_after i a (in_force h) e (last_said i a h)

-- ---- as a report gives it: 65,535 "means that many or more"
abbrev pub shown : Said → Option Heard
shown never = None
shown (said v n) = heard v (min n 65535)

abbrev pub report_of : Kind → Report → Option Heard
report_of AC r = r.ac
report_of ID r = r.id

-- ---- the setup in force
-- what a call brings, if it is done
abbrev pub setup_by : Setup → Call → Setup
setup_by old (setup h) = h
setup_by old (new a near far) = old
setup_by old (remove a) = old
setup_by old (move a near far) = old
setup_by old (request q) = old
setup_by old (plan tag) = old
setup_by old (reply r) = old
setup_by old (report a) = old

-- that of the newest setup answered 0; before any, all zero
unfoldable pub setup_seen : List Call → Setup
setup_seen [] = before_setup.setup
setup_seen (c ∷ cs) = pick (eqb (answer (after cs) c).number 0) (setup_by (setup_seen cs) c) (setup_seen cs)
