-- A plan told by its lines: from unit, address and start of each entry, and from the requests that waited, the entries and the requests left.
use Rattle.std.specs.Prelude.{ℕ, Bool, ◌&&◌, List, [], ◌∷◌, ◌++◌, map, eqb, take}
use Rattle.lists.specs.Lists.{pick, filter}
use Rattle.planner_rules.specs.declared.request.Ask.{Ask}
use Rattle.planner_rules.specs.declared.entry.Entry.{Entry}
use Rattle.planner_rules.specs.Exchange.{entry_at}
use Rattle.planner_rules.specs.Fits.{fits}
use Rattle.planner_rules.specs.Plan.{Board}

-- what the line of an entry shows: unit, address, start
pub record EntryShown : Type 0 where
  pub unit : ℕ
  pub address : ℕ
  pub start : ℕ

abbrev pub entry_shown : Entry → EntryShown
entry_shown e = record { unit = e.ask.request.unit; address = e.ask.request.address; start = e.start }

-- a request that the line can be of: that unit's, for that address, and it fits at that start beside the entries before it
abbrev pub is_meant : ℕ → List Entry → EntryShown → Ask → Bool
is_meant L es x a = eqb a.request.unit x.unit && eqb a.request.address x.address && fits L es (entry_at a x.start)

-- the oldest request that a test takes, if there is one, and the list without it
abbrev pub oldest_that : (Ask → Bool) → List Ask → List Ask
oldest_that p w = take 1 (filter p w)

unfoldable pub without_it : (Ask → Bool) → List Ask → List Ask
without_it p [] = []
without_it p (a ∷ w) = let v = without_it p w in pick (p a) w (a ∷ v)

-- line after line: the entry is that of the oldest request that the line can be of, and "placed requests leave the waiting list"
unfoldable pub told_by : ℕ → List Entry → List EntryShown → List Ask → Board
told_by L es [] w = record { placed = es; waiting = w }
told_by L es (x ∷ xs) w =
    told_by L (es ++ map (λ (a : Ask). entry_at a x.start) (oldest_that (is_meant L es x) w)) xs (without_it (is_meant L es x) w)
