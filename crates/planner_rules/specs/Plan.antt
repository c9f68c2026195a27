-- The plan in two phases, and the waiting list after it.
use Rattle.std.specs.Prelude.{ℕ, zero, suc, Bool, List, [], ◌∷◌, ◌++◌, eqb, ltb, length, take, set, replicate, Option, Some, None}
use Rattle.lists.specs.Lists.{pick, count_of, over}
use Rattle.planner_rules.specs.declared.request.Ask.{Ask}
use Rattle.planner_rules.specs.declared.request.Asks.{Asks}
use Rattle.planner_rules.specs.declared.entry.Entry.{Entry}
use Rattle.planner_rules.specs.declared.setup.Setup.{Setup}
use Rattle.planner_rules.specs.declared.plan.Planned.{Planned}
use Rattle.planner_rules.specs.Exchange.{entry_at}
use Rattle.planner_rules.specs.Fits.{place}
use Rattle.planner_rules.specs.Shares.{share}

abbrev pub of_unit : ℕ → Ask → Bool
of_unit u a = eqb a.request.unit u

-- how many of a unit's requests are placed, and how many wait
abbrev pub taken : ℕ → List Entry → ℕ
taken u es = count_of (λ (e : Entry). of_unit u e.ask) es

abbrev pub waits : ℕ → List Ask → ℕ
waits u w = count_of (of_unit u) w

-- what is placed, in the order placed, and what waits, the oldest first
pub record Board : Type 0 where
  pub placed : List Entry
  pub waiting : List Ask

-- the place of a request, if its unit has not reached the limit
unfoldable pub tried : ℕ → ℕ → List Entry → Ask → Option ℕ
tried L limit es a = pick (ltb (taken a.request.unit es) limit) (place L es a) None

-- a request that stays before those left
abbrev pub stays : Ask → Board → Board
stays a b = record { placed = b.placed; waiting = a ∷ b.waiting }

-- a pass over the waiting list by age: each request is tried once, and stays if it gets no place
unfoldable pub pass : ℕ → List ℕ → List Entry → List Ask → Board
pass L limits es [] = record { placed = es; waiting = [] }
pass L limits es (a ∷ w) =
    elim (tried L (share limits a.request.unit) es a) [ Some t ↦ pass L limits (es ++ (entry_at a t ∷ [])) w | None ↦ stays a (pass L limits es w) ]

abbrev pub pass_over : ℕ → List ℕ → Board → Board
pass_over L limits b = pass L limits b.placed b.waiting

-- the limits in the turn of one unit: its share, and nothing for the others
unfoldable pub alone : ℕ → List ℕ → List ℕ
alone u shares = set (replicate 8 0) u (share shares u)

-- the first n units in turn, each its oldest requests up to its share
unfoldable pub turns : ℕ → List ℕ → ℕ → Board → Board
turns L shares zero b = b
turns L shares (suc n) b = pass_over L (alone n shares) (turns L shares n b)

abbrev pub nothing_placed : List Ask → Board
nothing_placed w = record { placed = []; waiting = w }

-- the first phase: units 0 to 7 in turn, each its oldest requests up to its guarantee
abbrev pub first_phase : Setup → List Ask → Board
first_phase s w = turns s.period s.guarantee 8 (nothing_placed w)

-- the plan: after the first phase all the rest by age, each tried once, skipped if its unit is at its ceiling
unfoldable pub plan : Setup → List Ask → Board
plan s w = pass_over s.period s.ceiling (first_phase s w)

-- the waiting list that a part holds, and what an answer holds
abbrev pub asks_of : Asks → List Ask
asks_of w = take w.n w.list

abbrev pub placed_in : Planned → List Entry
placed_in p = take p.placed p.entries

abbrev pub waiting_in : Planned → List Ask
waiting_in p = take p.waiting p.asks

abbrev pub board_of : Planned → Board
board_of p = record { placed = placed_in p; waiting = waiting_in p }

-- an answer: the entries over the slots of the old plan, what still waits over those of the waiting list
abbrev pub in_slots : Board → List Entry → List Ask → Planned
in_slots b old base =
    record {
      placed = length b.placed;
      entries = over b.placed old;
      waiting = length b.waiting;
      asks = over b.waiting base;
    }
