-- The lines of the station: what each prints, and the station that it leaves. Each hands its numbers to the station's own call.
use Rattle.std.specs.Prelude.{ℕ, zero, suc, ◌^◌, ◌≤◌, ◌≡◌, Bool, true, ◌&&◌, List, [], ◌∷◌, ◌++◌, ℤ, eqb, ltb, length, replicate}
use Rattle.lists.specs.Lists.{pick}
use Rattle.text_rules.specs.Put.{Put, decimal, numbers_behind}
use Rattle.text_rules.specs.Plain.{plain}
use Rattle.text_rules.specs.Hex.{hex_of}
use Rattle.text_rules.specs.Signed.{signed_decimal}
use Rattle.parity_rules.specs.Answers.{Buffers}
use Rattle.parity_rules.specs.Places.{places_in}
use Rattle.frames_rules.specs.Bytes.{number_of_bytes}
use Rattle.planner_rules.specs.declared.request.Request.{Request}
use Rattle.planner_rules.specs.declared.setup.Setup.{Setup}
use Rattle.planner_rules.specs.declared.entry.Entry.{Entry}
use Rattle.planner_rules.specs.declared.entry.Status.{Status}
use Rattle.planner_rules.specs.declared.entry.Status.TheVariants.{Open, Answered, Withdrawn}
use Rattle.station_rules.specs.declared.state.Station.{Station}
use Rattle.station_rules.specs.declared.state.Target.{Target}
use Rattle.station_rules.specs.declared.state.Plan.{Plan}
use Rattle.station_rules.specs.Answers.{Outcome, Report}
use Rattle.station_rules.specs.State.{targets_of, entries_of}
use Rattle.station_rules.specs.Calls.{set_up, new_target, removed, moved, requested, reported}
use Rattle.station_rules.specs.Planning.{next_plan}
use Rattle.station_rules.specs.Replies.{Replied, received, replied}
use Rattle.stream_rules.specs.Lines.{followed, line, entry_words, entry_lines, report_line}
use Rattle.console_rules.specs.declared.names.StationLine.{StationLine}
use Rattle.console_rules.specs.declared.names.StationLine.TheVariants as lines
use Rattle.console_rules.specs.Texts.{number_at, bytes_at, done_text, refusal_text, answer_text, room}

-- ---- what a line says: the text that it prints, and the station that it leaves
pub record Spoken : Type 0 where
  pub text : List ℕ
  pub station : Station

-- the text was laid at the front of a buffer, with so many bytes, and the station is left; the text fits the buffer that the program lends
pub record Spoke (s : Spoken) (before after : List ℕ) (left : Station) (size : ℕ) : Type 0 where
  pub text_put : Put s.text 0 before after size
  pub station : left ≡ s.station
  pub short : length s.text ≤ room

-- the one with this text and this station
abbrev pub speaking : List ℕ → Station → Spoken
speaking t s = record { text = t; station = s }

-- a call's number alone, 0 or the refusal's
abbrev pub number_spoken : ℕ → Station → Spoken
number_spoken n s = speaking (refusal_text n) s

unfoldable pub outcome_spoken : Outcome → Spoken
outcome_spoken o = number_spoken o.number o.station

-- ---- a number that the call's own type cannot hold is outside its range: 2, where the call's other 2s are, which is first

-- a number of so many bits
abbrev pub fits : ℕ → ℕ → Bool
fits bits n = ltb n (2 ^ bits)

unfoldable pub all_fit : ℕ → List ℕ → Bool
all_fit bits [] = true
all_fit bits (n ∷ ns) = fits bits n && all_fit bits ns

unfoldable pub where_held : Bool → Station → Spoken → Spoken
where_held held s said = pick held said (number_spoken 2 s)

-- ---- `setup L R LIMIT G0 .. G7 C0 .. C7`

-- the n numbers from the k-th word on
unfoldable pub numbers_from : ℕ → ℕ → List (List ℕ) → List ℕ
numbers_from k zero ws = []
numbers_from k (suc n) ws = number_at k ws ∷ numbers_from (suc k) n ws

abbrev pub setup_of : List (List ℕ) → Setup
setup_of ws =
    record { period = number_at 1 ws; reach = number_at 2 ws; limit = number_at 3 ws; guarantee = numbers_from 4 8 ws; ceiling = numbers_from 12 8 ws }

unfoldable pub setup_spoken : Station → List (List ℕ) → Spoken
setup_spoken s ws =
    where_held (fits 16 (number_at 1 ws) && fits 16 (number_at 2 ws) && fits 8 (number_at 3 ws)) s
    (where_held (all_fit 8 (numbers_from 4 8 ws)) s
    (where_held (all_fit 8 (numbers_from 12 8 ws)) s
    (outcome_spoken (set_up s (setup_of ws)))))

-- ---- `target ADDRESS NEAR FAR`, `move ADDRESS NEAR FAR`, `remove ADDRESS`
abbrev pub edges_held : List (List ℕ) → Bool
edges_held ws = fits 16 (number_at 2 ws) && fits 16 (number_at 3 ws)

unfoldable pub target_spoken : Station → List (List ℕ) → Spoken
target_spoken s ws = where_held (edges_held ws) s (outcome_spoken (new_target s (number_at 1 ws) (number_at 2 ws) (number_at 3 ws)))

unfoldable pub move_spoken : Station → List (List ℕ) → Spoken
move_spoken s ws = where_held (edges_held ws) s (outcome_spoken (moved s (number_at 1 ws) (number_at 2 ws) (number_at 3 ws)))

unfoldable pub remove_spoken : Station → List (List ℕ) → Spoken
remove_spoken s ws = outcome_spoken (removed s (number_at 1 ws))

-- ---- `request UNIT ADDRESS UF PC RR DI SD MA`: 1 unless MA has seven bytes, before every 2
abbrev pub request_of : List (List ℕ) → Request
request_of ws =
    record {
      unit = number_at 1 ws;
      address = number_at 2 ws;
      uf = number_at 3 ws;
      pc = number_at 4 ws;
      rr = number_at 5 ws;
      di = number_at 6 ws;
      sd = number_at 7 ws;
      ma = number_of_bytes (bytes_at 8 ws);
    }

-- UNIT, and UF to DI, in eight bits each, and SD in sixteen
abbrev pub fields_held : List (List ℕ) → Bool
fields_held ws = fits 8 (number_at 1 ws) && all_fit 8 (numbers_from 3 4 ws) && fits 16 (number_at 7 ws)

unfoldable pub request_spoken : Station → List (List ℕ) → Spoken
request_spoken s ws =
    pick (eqb (length (bytes_at 8 ws)) 7) (where_held (fields_held ws) s (outcome_spoken (requested s (request_of ws)))) (number_spoken 1 s)

-- ---- `plan TAG`: 0, and below it the entries' lines as the stream prints them
unfoldable pub planned_spoken : Station → Spoken
planned_spoken s = speaking (plain "0\n" ++ entry_lines 0 (entries_of s.plan)) s

unfoldable pub plan_spoken : Station → List (List ℕ) → Spoken
plan_spoken s ws = planned_spoken (next_plan s (number_at 1 ws))

-- ---- `reply ENTRY TAG HEX MARKS`: the flips, the delay, the places and the corrected message; the buffers are lent as long as the message
abbrev pub taken_text : ℕ → ℤ → Buffers → List ℕ
taken_text flips delay b =
    decimal flips ++ (plain " " ++ (signed_decimal delay ++ (numbers_behind (places_in b.places) ++ (plain " " ++ hex_of b.output))))

unfoldable pub replied_spoken : Replied → Spoken
replied_spoken r =
    speaking
    (answer_text r.number (taken_text r.flips r.delay r.buffers))
    r.station

unfoldable pub reply_spoken : Station → List (List ℕ) → Spoken
reply_spoken s ws =
    let zeros = replicate {A = ℕ} (length (bytes_at 3 ws)) 0 in
    replied_spoken (replied s (received (number_at 1 ws) (number_at 2 ws) (bytes_at 3 ws) (bytes_at 4 ws) zeros zeros))

-- ---- `report ADDRESS`: 0 and the line of the stream
unfoldable pub report_text : Report → List ℕ
report_text r = pick (eqb r.number 0) (plain "0 " ++ report_line r.ac r.id) (refusal_text r.number)

unfoldable pub report_spoken : Station → List (List ℕ) → Spoken
report_spoken s ws = speaking (report_text (reported s (number_at 1 ws))) s

-- ---- `targets`: how many, and below them a line each: address, near, far, then as the stream prints a report
unfoldable pub target_line : Target → List ℕ
target_line t =
    followed (decimal t.address) 32 ++ (followed (decimal t.near) 32 ++ (followed (decimal t.far) 32 ++ report_line t.ac t.id))

unfoldable pub target_lines : List Target → List ℕ
target_lines [] = []
target_lines (t ∷ ts) = target_line t ++ target_lines ts

unfoldable pub targets_text : List Target → List ℕ
targets_text ts = done_text (decimal (length ts)) ++ target_lines ts

unfoldable pub targets_spoken : Station → Spoken
targets_spoken s = speaking (targets_text (targets_of s.targets)) s

-- ---- `entries`: how many and the plan's tag, and below them a line each: the stream's six numbers, and what has become of the entry
unfoldable pub status_word : Status → List ℕ
status_word Open = plain "open"
status_word Answered = plain "answered"
status_word Withdrawn = plain "withdrawn"

unfoldable pub status_line : ℕ → Entry → List ℕ
status_line k e = line (entry_words k e ++ (status_word e.status ∷ []))

unfoldable pub status_lines : ℕ → List Entry → List ℕ
status_lines k [] = []
status_lines k (e ∷ es) = status_line k e ++ status_lines (suc k) es

unfoldable pub entries_text : Plan → List ℕ
entries_text p = done_text (decimal (length (entries_of p)) ++ (plain " " ++ decimal p.tag)) ++ status_lines 0 (entries_of p)

unfoldable pub entries_spoken : Station → Spoken
entries_spoken s = speaking (entries_text s.plan) s

-- ---- each line
unfoldable pub station_spoken : StationLine → Station → List (List ℕ) → Spoken
station_spoken lines.Setup s ws = setup_spoken s ws
station_spoken lines.Target s ws = target_spoken s ws
station_spoken lines.Remove s ws = remove_spoken s ws
station_spoken lines.Move s ws = move_spoken s ws
station_spoken lines.Request s ws = request_spoken s ws
station_spoken lines.Plan s ws = plan_spoken s ws
station_spoken lines.Reply s ws = reply_spoken s ws
station_spoken lines.Report s ws = report_spoken s ws
station_spoken lines.Targets s ws = targets_spoken s
station_spoken lines.Entries s ws = entries_spoken s
