-- An exchange: the numbers of Annex 10, the intervals that it takes, and when two exchanges are clear. Times are in ticks.
use Rattle.std.specs.Prelude.{ℕ, ◌+◌, ◌-◌, Bool, not, ◌&&◌, ◌||◌, List, [], ◌∷◌, leb, eqb}
use Rattle.lists.specs.Lists.{pick}
use Rattle.planner_rules.specs.declared.request.Ask.{Ask}
use Rattle.planner_rules.specs.declared.entry.Entry.{Entry}
use Rattle.planner_rules.specs.declared.entry.Status.TheVariants.{Open}

-- phase reversal at tick 19, turnaround 512, tolerance 1
abbrev pub reversal : ℕ
reversal = 19

abbrev pub turnaround : ℕ
turnaround = 512

abbrev pub tolerance : ℕ
tolerance = 1

-- interrogations 79 short and 135 long, replies 256 short and 480 long
abbrev pub sent_short : ℕ
sent_short = 79

abbrev pub sent_long : ℕ
sent_long = 135

abbrev pub reply_short : ℕ
reply_short = 256

abbrev pub reply_long : ℕ
reply_long = 480

-- from the start to the start of a reply from no distance: at the earliest, by the clock, at the latest
abbrev pub earliest : ℕ
earliest = reversal + turnaround - tolerance

abbrev pub delay : ℕ
delay = reversal + turnaround

abbrev pub latest : ℕ
latest = reversal + turnaround + tolerance

-- the longest exchange, but for the distance
abbrev pub longest : ℕ
longest = latest + reply_long

-- the seven numbers from Annex 10, and the four that follow from them
abbrev pub constants : List ℕ
constants =
    reversal
    ∷ turnaround
    ∷ tolerance
    ∷ sent_short
    ∷ sent_long
    ∷ reply_short
    ∷ reply_long
    ∷ earliest
    ∷ delay
    ∷ latest
    ∷ longest
    ∷ []

-- UF 20 and above is a long interrogation; RR 16 and above draws the long reply
unfoldable pub sent_for : ℕ → ℕ
sent_for uf = pick (leb 20 uf) sent_long sent_short

unfoldable pub reply_for : ℕ → ℕ
reply_for rr = pick (leb 16 rr) reply_long reply_short

-- an exchange in ticks from its start: it transmits in [0, sent), listens in [from, to), and ends with its window
pub record Course : Type 0 where
  pub sent : ℕ
  pub from : ℕ
  pub to : ℕ

-- the exchange whose interrogation and reply last so long
abbrev pub course_of : ℕ → ℕ → ℕ → ℕ → Course
course_of sent near far reply = record { sent = sent; from = earliest + near; to = latest + far + reply }

-- the exchange of a request
abbrev pub exchange_of : Ask → Course
exchange_of a = course_of (sent_for a.request.uf) a.near a.far (reply_for a.request.rr)

-- a request placed at a start, open
abbrev pub entry_at : Ask → ℕ → Entry
entry_at a t = record { ask = a; start = t; status = Open }

-- an interval: lo is in it, hi is not
pub record Span : Type 0 where
  pub lo : ℕ
  pub hi : ℕ

-- the interrogation, the listening window, and the whole span
abbrev pub transmits : Entry → Span
transmits e = record { lo = e.start; hi = e.start + (exchange_of e.ask).sent }

abbrev pub listens : Entry → Span
listens e = record { lo = e.start + (exchange_of e.ask).from; hi = e.start + (exchange_of e.ask).to }

abbrev pub spans : Entry → Span
spans e = record { lo = e.start; hi = e.start + (exchange_of e.ask).to }

-- two intervals do not overlap; touching is allowed
unfoldable pub apart : Span → Span → Bool
apart a b = leb a.hi b.lo || leb b.hi a.lo

abbrev pub same_aircraft : Entry → Entry → Bool
same_aircraft d e = eqb d.ask.request.address e.ask.request.address

-- two exchanges are clear when their four intervals do not overlap and, for one address, the whole spans do not overlap
unfoldable pub clear : Entry → Entry → Bool
clear d e =
    apart (transmits d) (transmits e)
    && apart (transmits d) (listens e)
    && apart (listens d) (transmits e)
    && apart (listens d) (listens e)
    && (not (same_aircraft d e) || apart (spans d) (spans e))
