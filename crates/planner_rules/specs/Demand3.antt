-- Demand 3 of a plan, on the entries in the order placed and the requests left waiting.
use Rattle.std.specs.Prelude.{ℕ, zero, suc, ◌+◌, ◌≤◌, ◌<◌, min, ◌≡◌, ◌⊎◌, Bool, false, ◌&&◌, leb, ltb, eqb, length, get_or, take, drop, Some}
use mathlib.Core.List.{List, [], ◌∷◌, ◌++◌, map, Sublistᴰ}
use Rattle.lists.specs.Lists.{count_of, filter, All}
use Rattle.planner_rules.specs.declared.request.Ask.{Ask}
use Rattle.planner_rules.specs.declared.entry.Entry.{Entry}
use Rattle.planner_rules.specs.declared.entry.Status.TheVariants.{Open}
use Rattle.planner_rules.specs.declared.setup.Setup.{Setup}
use Rattle.planner_rules.specs.Exchange.{Span, entry_at, transmits, listens, spans}
use Rattle.planner_rules.specs.Fits.{fits, place}
use Rattle.planner_rules.specs.Shares.{share}
use Rattle.planner_rules.specs.Plan.{of_unit, taken, waits}

-- what the station keeps true of a request that waits
pub record Proper (s : Setup) (a : Ask) : Type 0 where
  pub unit_in : a.request.unit < 8
  pub near_in : a.near ≤ a.far
  pub far_in : a.far ≤ s.reach

-- a tick lies in an interval
abbrev pub holds : ℕ → Span → Bool
holds x i = leb i.lo x && ltb x i.hi

-- all transmissions and listening windows of a plan
unfoldable pub windows : List Entry → List Span
windows [] = []
windows (e ∷ es) = transmits e ∷ listens e ∷ windows es

-- an exchange with this aircraft is under way at a tick
abbrev pub under_way : ℕ → ℕ → Entry → Bool
under_way x address e = eqb e.ask.request.address address && holds x (spans e)

abbrev pub ask_of : Entry → Ask
ask_of e = e.ask

-- the oldest requests of the first n units in turn, each as many as its share
unfoldable pub oldest : List ℕ → ℕ → List Ask → List Ask
oldest shares zero w = []
oldest shares (suc n) w = oldest shares n w ++ take (share shares n) (filter (of_unit n) w)

-- why a request is left waiting: its unit has reached its ceiling, or no starting tick remains for it beside what is placed
abbrev pub LeftFor : Setup → List Entry → Ask → Type 0
LeftFor s placed a =
    (share s.ceiling a.request.unit ≤ taken a.request.unit placed)
    ⊎ ((t : ℕ) → fits s.period placed (entry_at a t) ≡ false)

-- demand 3, for a setup, the waiting list before, the entries placed and the requests left
pub record Demand3 (s : Setup) (w : List Ask) (placed : List Entry) (left : List Ask) : Type 0 where
  -- (a) no tick lies in two transmissions or listening windows
  pub no_overlap : (x : ℕ) → count_of (holds x) (windows placed) ≤ 1
  -- (a) at no tick are two exchanges with one aircraft under way
  pub no_interleaving : (x address : ℕ) → count_of (under_way x address) placed ≤ 1
  -- (a) each ends by L
  pub ends_in_period : All (λ (e : Entry). (spans e).hi ≤ s.period) placed
  -- (b) each unit has at least its guarantee, or all it has waiting if that is less
  pub at_least : (u : ℕ) → u < 8 → min (share s.guarantee u) (waits u w) ≤ taken u placed
  -- (b) the first phase places all that it tries: the first entries are each unit's oldest requests up to its guarantee
  pub first_placed : map ask_of (take (length (oldest s.guarantee 8 w)) placed) ≡ oldest s.guarantee 8 w
  -- (c) and never more than its ceiling
  pub at_most : (u : ℕ) → taken u placed ≤ share s.ceiling u
  -- (d) why a request is left waiting
  pub left_for : All (LeftFor s placed) left
  -- (e) what is left keeps its order, and of each kind of request as many are placed or left as waited
  pub keeps_order : Sublistᴰ left w
  pub none_lost : (f : Ask → Bool) → count_of (λ (e : Entry). f e.ask) placed + count_of f left ≡ count_of f w
  -- (e) an entry's number is its turn: each has the smallest start beside those of lower numbers, and after the first phase they go by age
  pub numbered : (z : Entry) (k : ℕ) → k < length placed → place s.period (take k placed) (get_or placed k z).ask ≡ Some (get_or placed k z).start
  pub by_age : Sublistᴰ (map ask_of (drop (length (oldest s.guarantee 8 w)) placed)) w
  -- and each is open
  pub all_open : All (λ (e : Entry). e.status ≡ Open) placed
