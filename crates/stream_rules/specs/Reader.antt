-- What a reader of a stream and its transcript sees of each record, and what they find from that alone: the calls are spelled by the stream, and the
-- numbers are read off the lines. Nothing here knows the station but through the lines that a record prints.
use Rattle.std.specs.Prelude.{ℕ, zero, suc, List, [], ◌∷◌, ◌++◌, map, Bool, not, ◌&&◌, eqb, length, get_or, take, drop}
use Rattle.lists.specs.Lists.{pick, filter}
use Rattle.text_rules.specs.Line.{lines_of, words_of}
use Rattle.text_rules.specs.Number.{value_after}
use Rattle.parity_rules.specs.Correction.{flipped_by}
use Rattle.planner_rules.specs.declared.request.Request.{Request}
use Rattle.planner_rules.specs.declared.request.Ask.{Ask}
use Rattle.planner_rules.specs.declared.setup.Setup.{Setup}
use Rattle.planner_rules.specs.Plan.{Board}
use Rattle.planner_rules.specs.Demand3.{ask_of}
use Rattle.planner_rules.specs.Told.{EntryShown, told_by}
use Rattle.reader_rules.specs.declared.reading.Found.{Found}
use Rattle.reader_rules.specs.declared.reading.Found.TheVariants.{End, Unknown, Cut, Whole}
use Rattle.station_rules.specs.State.{no_ask, before_setup}
use Rattle.station_rules.specs.Planning.{request_of}
use Rattle.station_rules.specs.Replies.{Received, matches_for}
use Rattle.station_rules.specs.History.{Call, setup, new, remove, move, request, plan, reply, report}
use Rattle.station_rules.specs.Seen.{Effect, effect_by, seen_as, in_force}
use Rattle.stream_rules.specs.Spelled.{call_of, Prints, plain, of_plan, of_reply, of_report, prints_of, found_after, record_lines}

-- ---- what a record shows
-- the numbers on each line of a text: its words, read as decimal numbers
abbrev pub numbers_on : List ℕ → List (List ℕ)
numbers_on text = map (λ (l : List ℕ). map (value_after 0) (words_of l)) (lines_of text)

-- the line of a record: number, kind, answer
abbrev pub answer_on : List (List ℕ) → ℕ
answer_on ls = get_or (get_or ls 0 []) 2 0

-- the line of an entry: entry, unit, address, start
abbrev pub entry_on : List ℕ → EntryShown
entry_on l = record { unit = get_or l 1 0; address = get_or l 2 0; start = get_or l 3 0 }

-- "a plan adds lines"
abbrev pub entries_by : {c : Call} → Prints c → List (List ℕ) → List EntryShown
entries_by plain ls = []
entries_by (of_plan tag) ls = map entry_on (drop 1 ls)
entries_by (of_reply r) ls = []
entries_by (of_report a) ls = []

abbrev pub entries_on : Call → List (List ℕ) → List EntryShown
entries_on c ls = entries_by (prints_of c) ls

-- of one record: the call that it spells, the answer on its line, and the lines of a plan's entries
pub record Shown : Type 0 where
  pub call : Call
  pub number : ℕ
  pub entries : List EntryShown

abbrev pub shown_on : Call → List (List ℕ) → Shown
shown_on c ls = record { call = c; number = answer_on ls; entries = entries_on c ls }

abbrev pub shown_in : Call → List ℕ → Shown
shown_in c text = shown_on c (numbers_on text)

-- what a whole record shows by its lines
unfoldable pub seen : List ℕ → Found → List ℕ → List Shown → List Shown
seen s End text v = v
seen s (Unknown b) text v = v
seen s (Cut kind) text v = v
seen s (Whole kind body next) text v = shown_in (call_of s kind body) text ∷ v

-- what the first k records show, the newest first
unfoldable pub shown_to : List ℕ → ℕ → List Shown
shown_to s zero = []
shown_to s (suc k) = seen s (found_after s k) (record_lines s k) (shown_to s k)

-- ---- the same, read off a whole transcript
-- the line of an entry has six numbers, and the third is an address, "1 to 16,777,214"; on the line of a taken reply with one place it is the answer 0
abbrev pub is_entry : List ℕ → Bool
is_entry l = eqb (length l) 6 && not (eqb (get_or l 2 0) 0)

-- how many lines of entries stand first
unfoldable pub entries_first : List (List ℕ) → ℕ
entries_first [] = 0
entries_first (l ∷ ls) = let n = entries_first ls in pick (is_entry l) (suc n) 0

-- how many lines a record has: its own; "a plan adds lines"; "a taken report adds a line"
abbrev pub count_by : {c : Call} → Prints c → List (List ℕ) → ℕ
count_by plain ls = 1
count_by (of_plan tag) ls = suc (entries_first (drop 1 ls))
count_by (of_reply r) ls = 1
count_by (of_report a) ls = pick (eqb (answer_on ls) 0) 2 1

abbrev pub count_on : Call → List (List ℕ) → ℕ
count_on c ls = count_by (prints_of c) ls

-- what was shown so far, and the lines left
pub record Reading : Type 0 where
  pub shown : List Shown
  pub left : List (List ℕ)

-- a whole record takes its own lines
abbrev pub read_whole : Call → Reading → Reading
read_whole c r =
    let n = count_on c r.left in
    record { shown = shown_on c (take n r.left) ∷ r.shown; left = drop n r.left }

unfoldable pub read_one : List ℕ → Found → Reading → Reading
read_one s End r = r
read_one s (Unknown b) r = r
read_one s (Cut kind) r = r
read_one s (Whole kind body next) r = read_whole (call_of s kind body) r

-- the first k records of a stream, read in a text
unfoldable pub read_to : List ℕ → List ℕ → ℕ → Reading
read_to s text zero = record { shown = []; left = numbers_on text }
read_to s text (suc k) = read_one s (found_after s k) (read_to s text k)

-- ---- what a reader knows from it
-- the setup in force; near and far last told of each address; the requests that wait, the oldest first; tag and lines of the newest plan
pub record Known : Type 0 where
  pub setup : Setup
  pub near : ℕ → ℕ
  pub far : ℕ → ℕ
  pub waiting : List Request
  pub tag : ℕ
  pub lines : List EntryShown

-- "a setup empties everything"
abbrev pub nothing_but : Setup → Known
nothing_but h = record { setup = h; near = λ a. 0; far = λ a. 0; waiting = []; tag = 0; lines = [] }

-- near and far of an address
abbrev pub knowing_edges : ℕ → ℕ → ℕ → Known → Known
knowing_edges b near far k =
    record {
      setup = k.setup;
      near = λ a. pick (eqb b a) near (k.near a);
      far = λ a. pick (eqb b a) far (k.far a);
      waiting = k.waiting;
      tag = k.tag;
      lines = k.lines;
    }

abbrev pub knowing_waiting : List Request → Known → Known
knowing_waiting w k = record { setup = k.setup; near = k.near; far = k.far; waiting = w; tag = k.tag; lines = k.lines }

-- what waits, with near and far of its target
abbrev pub ask_known : Known → Request → Ask
ask_known k q = record { request = q; near = k.near q.address; far = k.far q.address }

abbrev pub asked_known : Known → List Ask
asked_known k = map (ask_known k) k.waiting

-- the plan that the lines tell: its entries, and the requests left
abbrev pub board_by : Known → List EntryShown → Board
board_by k ls = told_by k.setup.period [] ls (asked_known k)

-- "the new plan replaces the old one"
abbrev pub knowing_plan : ℕ → List EntryShown → Known → Known
knowing_plan tag ls k =
    record { setup = k.setup; near = k.near; far = k.far; waiting = map request_of (board_by k ls).waiting; tag = tag; lines = ls }

-- after a call that was done: a setup empties; a new target and a move tell near and far; "removal drops the target's requests"; a request waits as the
-- youngest; a plan takes away those that its lines tell
abbrev pub known_after : Call → List EntryShown → Known → Known
known_after (setup h) ls k = nothing_but h
known_after (new a near far) ls k = knowing_edges a near far k
known_after (remove a) ls k = knowing_waiting (filter (λ (q : Request). not (eqb q.address a)) k.waiting) k
known_after (move a near far) ls k = knowing_edges a near far k
known_after (request q) ls k = knowing_waiting (k.waiting ++ (q ∷ [])) k
known_after (plan tag) ls k = knowing_plan tag ls k
known_after (reply r) ls k = k
known_after (report a) ls k = k

-- "a refusal .. changes nothing"; before the first record "L, R, limit, guarantees and ceilings are 0"
unfoldable pub known_by : List Shown → Known
known_by [] = nothing_but before_setup.setup
known_by (x ∷ v) = pick (eqb x.number 0) (known_after x.call x.entries (known_by v)) (known_by v)

-- the line of an entry of the newest plan
abbrev pub line_of : ℕ → List Shown → EntryShown
line_of e v = get_or (known_by v).lines e (record { unit = 0; address = 0; start = 0 })

-- ---- what a caller of the station would have seen, found by the reader
-- what the entries of a plan ask is told by its lines; the corrected message of a taken reply is the one that its marks allow over the entry's address
abbrev pub corrected_in : List Effect → Received → List ℕ
corrected_in es r = (flipped_by r.message (matches_for (get_or (in_force es) r.entry no_ask).request r)).buffers.output

abbrev pub event_for : List Effect → Known → Call → ℕ → List EntryShown → Effect
event_for es k c n ls = seen_as n (effect_by (λ tag. map ask_of (board_by k ls).placed) (corrected_in es) c)

unfoldable pub events_by : List Shown → List Effect
events_by [] = []
events_by (x ∷ v) = event_for (events_by v) (known_by v) x.call x.number x.entries ∷ events_by v
