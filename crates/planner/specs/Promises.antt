-- What the constructors of an exchange give, and what the parts of the search promise each other.
use Rattle.std.specs.Prelude.{ℕ, ◌+◌, ◌*◌, ◌≤◌, ◌<◌, ◌≡◌, ◌⊎◌, Bool, true, false, List, length, get_or, take, set, Option}
use Rattle.planner.specs.declared.exchange.Exchange.{Exchange}
use Rattle.planner_rules.specs.declared.request.Ask.{Ask}
use Rattle.planner_rules.specs.declared.entry.Entry.{Entry}
use Rattle.planner_rules.specs.Exchange.{Course, sent_long, earliest, longest, exchange_of, entry_at, transmits, listens, clear}
use Rattle.planner_rules.specs.Fits.{clear_of, place}
use Rattle.planner_rules.specs.Shares.{share}
use Rattle.lists.specs.Lists.{over}
use Rattle.planner_rules.specs.declared.plan.Planned.{Planned}
use Rattle.planner_rules.specs.Plan.{Board, taken, pass_over, placed_in, waiting_in, board_of, in_slots}

-- an exchange of the definitions, as the code holds it
abbrev pub held : Course → Exchange
held x = record { sent = x.sent; from = x.from; to = x.to }

-- near and far are numbers of 16 bits, so an exchange is no longer than this, and the search's sums have room
pub record Small (x : Exchange) : Type 0 where
  pub sent : x.sent ≤ sent_long
  pub from : x.from ≤ earliest + 65535
  pub to : x.to ≤ longest + 65535

-- an interval from j + a up to j + b, against the one from lo up to hi: at no start j from t up to r are they apart, and at t they are if r is t
pub record Past (t a b lo hi r : ℕ) : Type 0 where
  pub up : t ≤ r
  pub cap : r ≤ 200000
  pub none : (j : ℕ) → t ≤ j → j < r → (lo < j + b) × (j + a < hi)
  pub same : r ≡ t → (t + b ≤ lo) ⊎ (hi ≤ t + a)

-- no number from t up to r passes, and t passes if r is t
pub record Step (f : ℕ → Bool) (t r : ℕ) : Type 0 where
  pub up : t ≤ r
  pub cap : r ≤ 200000
  pub none : (j : ℕ) → t ≤ j → j < r → f j ≡ false
  pub same : r ≡ t → f t ≡ true

-- a step from t to r of the exchange p of any request with this address, against any entry with these intervals and this address
pub record Clearing (p : Exchange) (address at sent from end its t r : ℕ) : Type 0 where
  pub up : t ≤ r
  pub cap : r ≤ 200000
  pub step : (a : Ask) (e : Entry) → p ≡ held (exchange_of a) → address ≡ a.request.address → at ≡ (transmits e).lo → sent ≡ (transmits e).hi
      → from ≡ (listens e).lo → end ≡ (listens e).hi → its ≡ e.ask.request.address → Step (λ (j : ℕ). clear (entry_at a j) e) t r

-- the search reads five numbers of each entry placed: row i tells of e its start, the end of its interrogation, the start and the
-- end of its window, and its address
pub record Told (rows : List ℕ) (i : ℕ) (e : Entry) : Type 0 where
  pub start : get_or rows (i * 5) 0 ≡ (transmits e).lo
  pub sent : get_or rows (i * 5 + 1) 0 ≡ (transmits e).hi
  pub from : get_or rows (i * 5 + 2) 0 ≡ (listens e).lo
  pub end : get_or rows (i * 5 + 3) 0 ≡ (listens e).hi
  pub address : get_or rows (i * 5 + 4) 0 ≡ e.ask.request.address

-- the intervals of row i end where the search's sums have room
pub record Roomy (rows : List ℕ) (i : ℕ) : Type 0 where
  pub sent : get_or rows (i * 5 + 1) 0 ≤ 200000
  pub end : get_or rows (i * 5 + 3) 0 ≤ 200000

-- the rows show the first n entries
pub record Shown (rows : List ℕ) (n : ℕ) (es : List Entry) : Type 0 where
  pub all : length rows ≡ 640
  pub each : (i : ℕ) (d : Entry) → i < n → Told rows i (get_or es i d)
  pub room : (i : ℕ) → i < n → Roomy rows i

-- the rows with row i written for an entry
unfoldable pub noted : Entry → ℕ → List ℕ → List ℕ
noted e i rows =
    set (set (set (set (set rows (i * 5) (transmits e).lo) (i * 5 + 1) (transmits e).hi) (i * 5 + 2) (listens e).lo) (i * 5 + 3) (listens e).hi)
    (i * 5 + 4) e.ask.request.address

-- a step as above, against any entry that row i tells of
pub record ClearingRow (p : Exchange) (address : ℕ) (rows : List ℕ) (i t r : ℕ) : Type 0 where
  pub up : t ≤ r
  pub cap : r ≤ 200000
  pub step : (a : Ask) (e : Entry) → p ≡ held (exchange_of a) → address ≡ a.request.address → Told rows i e → Step (λ (j : ℕ). clear (entry_at a j) e) t r

-- a round from t to r over the first n of any entries that the rows show
pub record Rounded (p : Exchange) (address : ℕ) (rows : List ℕ) (n t r : ℕ) : Type 0 where
  pub up : t ≤ r
  pub cap : r ≤ 200000
  pub step : (a : Ask) (es : List Entry) → p ≡ held (exchange_of a) → address ≡ a.request.address → n ≤ length es → Shown rows n es
      → Step (λ (j : ℕ). clear_of (entry_at a j) (take n es)) t r

-- the place of a request beside the first n of any entries that the rows show
abbrev pub Placing : ℕ → Ask → ℕ → List ℕ → Option ℕ → Type 0
Placing L a n rows r = (es : List Entry) → n ≤ length es → Shown rows n es → r ≡ place L (take n es) a

-- a list of eight counts says how many entries each unit has
pub record Tallied (counts : List ℕ) (es : List Entry) : Type 0 where
  pub eight : length counts ≡ 8
  pub each : (u : ℕ) → u < 8 → share counts u ≡ taken u es

-- a pass over what waits in b gave r: the board of the definition in the slots of b; the rows show its entries, and the counts are theirs
pub record PassedOver (L : ℕ) (limits : List ℕ) (b r : Planned) (rows counts : List ℕ) : Type 0 where
  pub answer : r ≡ in_slots (pass_over L limits (board_of b)) b.entries b.asks
  pub shown : Shown rows r.placed r.entries
  pub tallied : Tallied counts (placed_in r)

-- the slots hold a board: its entries over those of the old plan, and what waits at the front
pub record Laid (x : Board) (old : List Entry) (r : Planned) : Type 0 where
  pub placed : r.placed ≡ length x.placed
  pub entries : r.entries ≡ over x.placed old
  pub waiting : r.waiting ≡ length x.waiting
  pub asks : waiting_in r ≡ x.waiting
