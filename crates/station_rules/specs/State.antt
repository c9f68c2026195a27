-- The lists that the parts of a station hold, and the parts with another list. A count above a part's slots counts all of them.
use Rattle.std.specs.Prelude.{ℕ, ◌+◌, List, [], ◌∷◌, ◌++◌, map, Bool, not, length, take, set, get_or, replicate, eqb, ltb, Option, Some, None}
use Rattle.lists.specs.Lists.{pick, index_of, filter, over}
use Rattle.planner_rules.specs.declared.request.Request.{Request}
use Rattle.planner_rules.specs.declared.request.Ask.{Ask}
use Rattle.planner_rules.specs.declared.entry.Entry.{Entry}
use Rattle.planner_rules.specs.declared.entry.Status.{Status}
use Rattle.planner_rules.specs.declared.entry.Status.TheVariants.{Open, Answered, Withdrawn}
use Rattle.planner_rules.specs.declared.setup.Setup.{Setup}
use Rattle.station_rules.specs.declared.state.Heard.{Heard}
use Rattle.station_rules.specs.declared.state.Target.{Target}
use Rattle.station_rules.specs.declared.state.Targets.{Targets}
use Rattle.station_rules.specs.declared.state.Waiting.{Waiting}
use Rattle.station_rules.specs.declared.state.Plan.{Plan}
use Rattle.station_rules.specs.declared.state.Station.{Station}

-- ---- targets
-- the targets held, in their order
abbrev pub targets_of : Targets → List Target
targets_of t = take t.n t.list

-- the same slots, holding the list v; the slots beyond it are as they were
abbrev pub targets_as : List Target → Targets → Targets
targets_as v t = record { list = over v t.list; n = length v }

abbrev pub is_at : ℕ → Target → Bool
is_at a t = eqb t.address a

-- the place of the first target of the address, or the list's length where there is none
abbrev pub place_in : List Target → ℕ → ℕ
place_in ts a = index_of (is_at a) ts

-- whether the address is in the target list
abbrev pub in_list : ℕ → Targets → Bool
in_list a t = ltb (place_in (targets_of t) a) (length (targets_of t))

-- a value heard, with its age
abbrev pub heard : ℕ → ℕ → Option Heard
heard v age = Some (record { value = v; age = age })

-- a target of which nothing was heard
abbrev pub fresh : ℕ → ℕ → ℕ → Target
fresh a near far = record { address = a; near = near; far = far; ac = None; id = None }

-- the target with other edges, with another AC, with another ID
abbrev pub with_edges : ℕ → ℕ → Target → Target
with_edges near far t = record { address = t.address; near = near; far = far; ac = t.ac; id = t.id }

abbrev pub with_ac : Option Heard → Target → Target
with_ac v t = record { address = t.address; near = t.near; far = t.far; ac = v; id = t.id }

abbrev pub with_id : Option Heard → Target → Target
with_id v t = record { address = t.address; near = t.near; far = t.far; ac = t.ac; id = v }

-- the target of the address, or one at the station where there is none
abbrev pub target_at : ℕ → Targets → Target
target_at a t = get_or (targets_of t) (place_in (targets_of t) a) (fresh 0 0 0)

-- one target more, at the end
abbrev pub targets_with : Target → Targets → Targets
targets_with x t = targets_as (targets_of t ++ (x ∷ [])) t

-- the targets of every other address, in their order
abbrev pub targets_without : ℕ → Targets → Targets
targets_without a t = targets_as (filter (λ x. not (is_at a x)) (targets_of t)) t

-- another target in the place of the address's
abbrev pub targets_put : ℕ → Target → Targets → Targets
targets_put a x t = targets_as (set (targets_of t) (place_in (targets_of t) a) x) t

-- ---- ages
-- "each plan adds 1 to the ages present, up to 65,535"
abbrev pub age_after : ℕ → ℕ
age_after age = pick (ltb age 65535) (age + 1) age

-- "a value never heard has no age"
abbrev pub value_after : Option Heard → Option Heard
value_after None = None
value_after (Some h) = heard h.value (age_after h.age)

abbrev pub older : Target → Target
older t = with_ac (value_after t.ac) (with_id (value_after t.id) t)

-- every age present is one more
abbrev pub targets_older : Targets → Targets
targets_older t = targets_as (map older (targets_of t)) t

-- ---- waiting requests
-- the requests that wait, the oldest first
abbrev pub requests_of : Waiting → List Request
requests_of w = take w.n w.list

abbrev pub waiting_as : List Request → Waiting → Waiting
waiting_as v w = record { list = over v w.list; n = length v }

abbrev pub is_of : ℕ → Request → Bool
is_of u q = eqb q.unit u

-- one request more, as the youngest
abbrev pub waiting_with : Request → Waiting → Waiting
waiting_with q w = waiting_as (requests_of w ++ (q ∷ [])) w

-- the requests for every other address, in their order
abbrev pub waiting_without : ℕ → Waiting → Waiting
waiting_without a w = waiting_as (filter (λ q. not (eqb q.address a)) (requests_of w)) w

-- ---- the plan in force
-- its entries, by their numbers
abbrev pub entries_of : Plan → List Entry
entries_of p = take p.n p.list

abbrev pub plan_as : List Entry → Plan → Plan
plan_as v p = record { list = over v p.list; n = length v; tag = p.tag }

abbrev pub with_status : Status → Entry → Entry
with_status m e = record { ask = e.ask; start = e.start; status = m }

-- an open entry is withdrawn
abbrev pub status_withdrawn : Status → Status
status_withdrawn Open = Withdrawn
status_withdrawn Answered = Answered
status_withdrawn Withdrawn = Withdrawn

abbrev pub withdrawn : ℕ → Entry → Entry
withdrawn a e = with_status (pick (eqb e.ask.request.address a) (status_withdrawn e.status) e.status) e

-- "removal .. withdraws its open entries"
abbrev pub plan_withdrawn : ℕ → Plan → Plan
plan_withdrawn a p = plan_as (map (withdrawn a) (entries_of p)) p

-- ---- the station with another part
abbrev pub with_targets : Targets → Station → Station
with_targets t s = record { targets = t; waiting = s.waiting; plan = s.plan; setup = s.setup }

abbrev pub with_waiting : Waiting → Station → Station
with_waiting w s = record { targets = s.targets; waiting = w; plan = s.plan; setup = s.setup }

abbrev pub with_plan : Plan → Station → Station
with_plan p s = record { targets = s.targets; waiting = s.waiting; plan = p; setup = s.setup }

abbrev pub with_setup : Setup → Station → Station
with_setup h s = record { targets = s.targets; waiting = s.waiting; plan = s.plan; setup = h }

-- ---- empty parts: every slot the same
abbrev pub no_request : Request
no_request = record { unit = 0; address = 0; uf = 0; pc = 0; rr = 0; di = 0; sd = 0; ma = 0 }

abbrev pub no_ask : Ask
no_ask = record { request = no_request; near = 0; far = 0 }

abbrev pub no_entry : Entry
no_entry = record { ask = no_ask; start = 0; status = Open }

-- "before a setup L, R, limit, guarantees and ceilings are 0"; nothing held, nothing waiting, no plan
unfoldable pub before_setup : Station
before_setup =
    record {
      targets = record { list = replicate 64 (fresh 0 0 0); n = 0 };
      waiting = record { list = replicate 128 no_request; n = 0 };
      plan = record { list = replicate 128 no_entry; n = 0; tag = 0 };
      setup = record { period = 0; reach = 0; limit = 0; guarantee = replicate 8 0; ceiling = replicate 8 0 };
    }

-- "a setup empties everything": nothing held, nothing waiting, no plan, and this setup; the slots are as they were
abbrev pub no_targets : Targets → Targets
no_targets t = record { list = t.list; n = 0 }

abbrev pub none_waiting : Waiting → Waiting
none_waiting w = record { list = w.list; n = 0 }

abbrev pub no_plan : Plan → Plan
no_plan p = record { list = p.list; n = 0; tag = 0 }

unfoldable pub emptied : Setup → Station → Station
emptied h s =
    with_setup h (with_targets (no_targets s.targets) (with_waiting (none_waiting s.waiting) (with_plan (no_plan s.plan) s)))
