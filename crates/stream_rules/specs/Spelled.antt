-- The calls that the records of a stream spell, the newest first, and the lines of each record in a station that these calls made.
use Rattle.std.specs.Prelude.{ℕ, zero, suc, ◌+◌, ◌≡◌, Bool, true, List, [], ◌∷◌, ◌++◌, eqb, get_or, take, drop, replicate}
use Rattle.lists.specs.Lists.{pick}
use Rattle.lists.specs.Checks.{given}
use Rattle.reader_rules.specs.declared.reading.Found.{Found}
use Rattle.reader_rules.specs.declared.reading.Found.TheVariants.{End, Unknown, Cut, Whole}
use Rattle.reader_rules.specs.Records.{number_at, record_at, next_place}
use Rattle.reader_rules.specs.Fields.{setup_at, edges_at, address_at, request_at, tag_at}
use Rattle.station_rules.specs.Replies.{Received, received}
use Rattle.station_rules.specs.History.{Call, setup, new, remove, move, request, plan, reply, report, after}
use Rattle.station_rules.specs.Numbers.{checks}
use Rattle.stream_rules.specs.Run.{obeyed_at, goes_on}

-- "the first 64 KiB of standard input as the whole stream"
abbrev pub stream_of : List ℕ → List ℕ
stream_of input = take 65536 input

-- ---- calls
-- n bytes of the stream from a place on
abbrev pub bytes_at : List ℕ → ℕ → ℕ → List ℕ
bytes_at s at n = take n (drop at s)

-- a reply: entry, tag 4, message and marks of m bytes each; it is lent as many zeros, twice
abbrev pub reply_of : List ℕ → ℕ → ℕ → Call
reply_of s b m =
    reply (received (get_or s b 0) (number_at s (b + 1) 4) (bytes_at s (b + 5) m) (bytes_at s (b + 5 + m) m) (replicate m 0) (replicate m 0))

-- the call that a whole record of a kind spells with its body at a place: 1 setup; 2 new target; 3 remove; 4 request; 5 plan; 6 short
-- reply, of 7 bytes; 7 long reply, of 14; 8 report; 9 move. No record of another kind is whole
unfoldable pub call_of : List ℕ → ℕ → ℕ → Call
call_of s kind b =
    pick (eqb kind 1) (setup (setup_at s b))
    (pick (eqb kind 2) (new (edges_at s b).address (edges_at s b).near (edges_at s b).far)
    (pick (eqb kind 3) (remove (address_at s b))
    (pick (eqb kind 4) (request (request_at s b))
    (pick (eqb kind 5) (plan (tag_at s b))
    (pick (eqb kind 6) (reply_of s b 7)
    (pick (eqb kind 7) (reply_of s b 14)
    (pick (eqb kind 8) (report (address_at s b))
    (move (edges_at s b).address (edges_at s b).near (edges_at s b).far))))))))

-- ---- what a call prints beside its number: nothing; the entries of a plan; flips, delay and places of a reply; what a report tells
pub data Prints : Call → Type 0 where
  plain : {c : Call} → Prints c
  of_plan : (tag : ℕ) → Prints (plan tag)
  of_reply : (r : Received) → Prints (reply r)
  of_report : (a : ℕ) → Prints (report a)

abbrev pub prints_of : (c : Call) → Prints c
prints_of (setup h) = plain
prints_of (new a near far) = plain
prints_of (remove a) = plain
prints_of (move a near far) = plain
prints_of (request q) = plain
prints_of (plan tag) = of_plan tag
prints_of (reply r) = of_reply r
prints_of (report a) = of_report a

-- ---- the calls of a stream
-- one call more where a whole record stands; an unknown kind and a cut record call nothing
unfoldable pub called : List ℕ → Found → List Call → List Call
called s End cs = cs
called s (Unknown b) cs = cs
called s (Cut kind) cs = cs
called s (Whole kind body next) cs = call_of s kind body ∷ cs

-- the place of the record after the first k
unfoldable pub place_of : List ℕ → ℕ → ℕ
place_of s zero = 0
place_of s (suc k) = next_place (record_at s (place_of s k)) (place_of s k)

-- what stands there
abbrev pub found_after : List ℕ → ℕ → Found
found_after s k = record_at s (place_of s k)

-- the calls of the first k records
unfoldable pub calls_of : List ℕ → ℕ → List Call
calls_of s zero = []
calls_of s (suc k) = called s (found_after s k) (calls_of s k)

-- the record after the first k is whole, of this kind, and spells this call
pub record Spells (s : List ℕ) (k kind : ℕ) (c : Call) : Type 0 where
  pub body : ℕ
  pub next : ℕ
  pub whole : found_after s k ≡ Whole kind body next
  pub call_is : call_of s kind body ≡ c

-- the number that document 01's table gives a call after the calls cs
abbrev pub number_given : List Call → Call → ℕ
number_given cs c = given (checks (after cs) c)

-- ---- lines
-- the lines of the record after the first k, which is number k + 1
unfoldable pub record_lines : List ℕ → ℕ → List ℕ
record_lines s k = (obeyed_at s (suc k) (after (calls_of s k)) (found_after s k)).lines

-- the lines of the first k records
unfoldable pub lines_before : List ℕ → ℕ → List ℕ
lines_before s zero = []
lines_before s (suc k) = lines_before s k ++ record_lines s k

-- the run comes to the record after the first k: those before it are whole
unfoldable pub reached : List ℕ → ℕ → Bool
reached s zero = true
reached s (suc k) = goes_on (found_after s k)
