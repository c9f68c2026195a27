-- What a record prints, told by the demands from what the records before it spell and print.
use Rattle.std.specs.Prelude.{ℕ, suc, ◌+◌, ◌≤◌, ◌≡◌, true, false, List, [], ◌∷◌, ◌++◌, eqb, length, get_or}
use Rattle.std.proofs.Math.IntN.{sub_ℕ}
use Rattle.lists.specs.Lists.{pick}
use Rattle.text_rules.specs.Put.{decimal}
use Rattle.parity_rules.specs.Answers.{buffers}
use Rattle.parity_rules.specs.Places.{places_in, Numbered}
use Rattle.parity_rules.specs.Corrected.{Corrected}
use Rattle.frames_rules.specs.Reading.{format_of}
use Rattle.planner_rules.specs.Plan.{Board}
use Rattle.planner_rules.specs.Demand3.{Demand3}
use Rattle.reader_rules.specs.declared.reading.Found.{Found}
use Rattle.reader_rules.specs.declared.reading.Found.TheVariants.{End, Unknown, Cut, Whole}
use Rattle.station_rules.specs.State.{no_ask}
use Rattle.station_rules.specs.Replies.{Received, expected, start_of}
use Rattle.station_rules.specs.History.{Call, plan, reply, report}
use Rattle.station_rules.specs.Seen.{AC, ID, Effect, in_force, last_said, shown}
use Rattle.stream_rules.specs.Lines.{line, answer_line, reply_line, entry_lines, report_line}
use Rattle.stream_rules.specs.Spelled.{number_given, call_of, Prints, plain, of_plan, of_reply, of_report, prints_of, found_after, record_lines, lines_before}
use Rattle.stream_rules.specs.Spelled.{reached, stream_of}
use Rattle.stream_rules.specs.Reader.{Shown, numbers_on, answer_on, entries_on, known_by, asked_known, board_by, line_of, events_by}
use Rattle.stream_rules.specs.Run.{goes_on, transcript}

-- number, kind and the table's number, alone on a line
abbrev pub numbered : ℕ → ℕ → List Call → Call → List ℕ
numbered n kind cs c = answer_line n kind (number_given cs c)

-- what the aircraft last said of AC and of ID, each with the number of plans since
abbrev pub last_said_line : List Effect → ℕ → List ℕ
last_said_line es a = report_line (shown (last_said AC a es)) (shown (last_said ID a es))

-- the number on the line of a record, behind the record's own number and its kind; what a taken reply adds to the line, and the lines below
pub record NumberPrinted (n kind number : ℕ) (text : List ℕ) : Type 0 where
  pub added : List (List ℕ)
  pub below : List ℕ
  pub text_is : text ≡ line (decimal n ∷ decimal kind ∷ decimal number ∷ added) ++ below
  -- and a reader finds it there
  pub read_as : answer_on (numbers_on text) ≡ number

-- the plan that the lines of a record tell, after records that showed v
abbrev pub board_on : List Shown → ℕ → List ℕ → Board
board_on v tag text = board_by (known_by v) (entries_on (plan tag) (numbers_on text))

-- a plan: the lines are those of the entries that they tell, which meet demand 3 against the waiting list of that moment
pub record PlanPrinted (n kind : ℕ) (v : List Shown) (tag : ℕ) (text : List ℕ) : Type 0 where
  pub text_is : text ≡ answer_line n kind 0 ++ entry_lines 0 (board_on v tag text).placed
  pub demand : Demand3 (known_by v).setup (asked_known (known_by v)) (board_on v tag text).placed (board_on v tag text).waiting

-- a taken reply: the number of places where the message and the one corrected message differ, s − t − 531, and the numbers of those places: s is its tag
-- minus the newest plan's, and t the start on the entry's line. The message is corrected over the address on that line, and its format is what the entry's
-- request draws
pub record ReplyPrinted (n kind : ℕ) (v : List Shown) (r : Received) (text : List ℕ) : Type 0 where
  pub output : List ℕ
  pub places : List ℕ
  pub text_is : text
      ≡ reply_line n kind (length (places_in places)) (sub_ℕ (start_of r.tag (known_by v).tag) ((line_of r.entry v).start + 531)) (places_in places)
  pub corrected : Corrected r.message r.marks (line_of r.entry v).address (length (places_in places)) (buffers output places)
  pub numbered : Numbered places (places_in places)
  pub few : length (places_in places) ≤ 12
  pub format : format_of output ≡ expected (get_or (in_force (events_by v)) r.entry no_ask).request

-- a reply that is refused prints its number alone
pub record ReplyTold (n kind : ℕ) (cs : List Call) (v : List Shown) (r : Received) (text : List ℕ) : Type 0 where
  pub taken : number_given cs (reply r) ≡ 0 → ReplyPrinted n kind v r text
  pub refused : (number_given cs (reply r) ≡ 0 → ⊥) → text ≡ numbered n kind cs (reply r)

-- ---- the lines of record n for the call that it spells, after records that called cs and showed v
abbrev pub ToldBy : {c : Call} → Prints c → ℕ → ℕ → List Call → List Shown → List ℕ → Type 0
ToldBy {c} plain n kind cs v text = text ≡ numbered n kind cs c
ToldBy (of_plan tag) n kind cs v text = PlanPrinted n kind v tag text
ToldBy (of_reply r) n kind cs v text = ReplyTold n kind cs v r text
ToldBy (of_report a) n kind cs v text =
    text ≡ numbered n kind cs (report a) ++ pick (eqb (number_given cs (report a)) 0) (last_said_line (events_by v) a) []

abbrev pub Told : ℕ → ℕ → List Call → List Shown → Call → List ℕ → Type 0
Told n kind cs v c text = ToldBy (prints_of c) n kind cs v text

-- the lines of record n by what stands at its place: 16 and 17 for what is no whole record
abbrev pub Printed : List ℕ → ℕ → List Call → List Shown → Found → List ℕ → Type 0
Printed s n cs v End text = text ≡ []
Printed s n cs v (Unknown b) text = text ≡ answer_line n b 16
Printed s n cs v (Cut kind) text = text ≡ answer_line n kind 17
Printed s n cs v (Whole kind body next) text = Told n kind cs v (call_of s kind body) text

-- ---- the transcript is these lines
-- the lines of the record after the first k stand in the transcript behind the lines of those before it; where the run ends, nothing follows
pub record Stands (input : List ℕ) (k : ℕ) : Type 0 where
  pub behind : List ℕ
  pub transcript_is : transcript input ≡ lines_before (stream_of input) k ++ (record_lines (stream_of input) k ++ behind)
  pub last : goes_on (found_after (stream_of input) k) ≡ false → behind ≡ []

-- the transcript is the lines of its records and nothing else: the last that the run comes to is no whole record, and all before it are whole
pub record AllPrinted (input : List ℕ) : Type 0 where
  pub count : ℕ
  pub comes : reached (stream_of input) count ≡ true
  pub ends : goes_on (found_after (stream_of input) count) ≡ false
  pub transcript_is : transcript input ≡ lines_before (stream_of input) (suc count)
