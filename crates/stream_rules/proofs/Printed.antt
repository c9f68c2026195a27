-- The demands on the transcript's own lines: what each record prints, for every input, told from what the records before it spell and print.
use Prim.Native.Nat.{ℕ, zero, suc, ◌+◌}
use mathlib.Core.Path.{◌≡◌, refl, ap, ap₂, subst, sym, ◌∙◌}
use mathlib.Core.Bool.{Bool, true, false}
use mathlib.Core.List.{List, [], ◌∷◌, ◌++◌, map, append-nil}
use lib.Dec.{eqb}
use lib.IntN.{ℤ, sub_ℕ}
use lib.ListN.{get_or}
use borrow.Author.Tests.{eqb-true}
use Rattle.lists.specs.Lists.{pick}
use Rattle.lists.specs.Checks.{checked}
use Rattle.lists.proofs.Held.{all_nil, all_cons}
use Rattle.text_rules.specs.Put.{decimal}
use Rattle.text_rules.specs.Signed.{signed_decimal}
use Rattle.text_rules.proofs.Parted.{Word, decimal_word, signed_word}
use Rattle.parity_rules.specs.Messages.{AreBytes}
use Rattle.parity_rules.specs.Places.{places_in}
use Rattle.parity_rules.proofs.Places.{numbered}
use Rattle.planner_rules.specs.declared.entry.Entry.{Entry}
use Rattle.planner_rules.specs.declared.request.Ask.{Ask}
use Rattle.planner_rules.specs.declared.setup.Setup.{Setup}
use Rattle.planner_rules.specs.Plan.{Board}
use Rattle.planner_rules.specs.Demand3.{Demand3}
use Rattle.planner_rules.specs.Told.{EntryShown, entry_shown}
use Rattle.reader_rules.specs.declared.reading.Found.{Found}
use Rattle.reader_rules.specs.declared.reading.Found.TheVariants.{End, Unknown, Cut, Whole}
use Rattle.reader_rules.specs.Records.{record_at}
use Rattle.station_rules.specs.declared.state.Station.{Station}
use Rattle.station_rules.specs.State.{entries_of, no_ask}
use Rattle.station_rules.specs.Calls.{reported}
use Rattle.station_rules.specs.Planning.{board_for, next_plan}
use Rattle.station_rules.specs.Replies.{expected, start_of, delay_of, Received, entry_for, request_for, start_for, Replied, replied}
use Rattle.station_rules.specs.History.{Call, plan, reply, report, after}
use Rattle.station_rules.specs.Seen.{AC, ID, Effect, events, in_force}
use Rattle.station_rules.proofs.Keeping.{plan_shows, always_kept}
use Rattle.station_rules.proofs.Came.{taken}
use Rattle.station_rules.proofs.Replies.{places_told_is}
use Rattle.station_rules.proofs.Demands.{demand1, ages, replies, plans, left_back}
use Rattle.stream_rules.specs.Lines.{answer_line, reply_line, entry_lines, report_line}
use Rattle.stream_rules.specs.Step.{Obeyed, replied_to}
use Rattle.stream_rules.specs.Run.{obeyed_at, begun, run_after}
use Rattle.stream_rules.specs.Spelled.{number_given, call_of, Prints, plain, of_plan, of_reply, of_report, prints_of, called, place_of, found_after, calls_of}
use Rattle.stream_rules.specs.Spelled.{Spells, record_lines}
use Rattle.stream_rules.specs.Reader.{Shown, numbers_on, answer_on, entries_by, shown_in, seen, shown_to, known_by, board_by, line_of, events_by}
use Rattle.stream_rules.specs.Printed.{last_said_line, NumberPrinted, board_on, PlanPrinted, ReplyPrinted, ReplyTold, ToldBy, Told, Printed}
use Rattle.stream_rules.proofs.Spelled.{lines_by, lines_for, whole_done, BytesBy, MessageBytes, message_bytes, run_at}
use Rattle.stream_rules.proofs.ReadBack.{decimals, answer_read, plan_lines_read}
use Rattle.stream_rules.proofs.Reader.{made_by, shown_for, shown_of, Knows, known_is, asked_read, board_read, line_of_entry, entry_asks, events_read}

-- ---- the number on a record's line
alone : (n kind number : ℕ) → NumberPrinted n kind number (answer_line n kind number)
unfolding answer_line
alone n kind number =
    let e : answer_line n kind number ≡ answer_line n kind number ++ [] = sym (append-nil _) in
    record { added = []; below = []; text_is = e; read_as = ap (λ (t : List ℕ). answer_on (numbers_on t)) e ∙ answer_read n kind number [] (all_nil Word) [] }

with_below : (n kind number : ℕ) (t : List ℕ) → NumberPrinted n kind number (answer_line n kind number ++ t)
unfolding answer_line
with_below n kind number t = record { added = []; below = t; text_is = refl; read_as = answer_read n kind number [] (all_nil Word) t }

with_flips : (n kind flips : ℕ) (delay : ℤ) (ps : List ℕ) → NumberPrinted n kind 0 (reply_line n kind flips delay ps)
unfolding reply_line
with_flips n kind flips delay ps =
    let e : reply_line n kind flips delay ps ≡ reply_line n kind flips delay ps ++ [] = sym (append-nil _) in
    let ws = decimal flips ∷ signed_decimal delay ∷ map decimal ps in
    let w = all_cons Word _ _ (decimal_word flips) (all_cons Word (signed_decimal delay) (map decimal ps) (signed_word delay) (decimals ps)) in
    record { added = ws; below = []; text_is = e; read_as = ap (λ (t : List ℕ). answer_on (numbers_on t)) e ∙ answer_read n kind 0 ws w [] }

reply_number : (n kind : ℕ) (r : Replied) (b : Bool) → eqb r.number 0 ≡ b
    → NumberPrinted n kind r.number (pick b (reply_line n kind r.flips r.delay (places_in r.buffers.places)) (answer_line n kind r.number))
reply_number n kind r true e = rw (eqb-true r.number 0 e) (with_flips n kind r.flips r.delay (places_in r.buffers.places))
reply_number n kind r false e = alone n kind r.number

-- it is the one that the table gives the call
number_by : (n kind : ℕ) (cs : List Call) {c : Call} (p : Prints c) → NumberPrinted n kind (number_given cs c) (lines_by p n kind (after cs))
unfolding checked
number_by n kind cs {c} plain = rw ((demand1 cs).numbers c) (alone n kind (number_given cs c))
number_by n kind cs (of_plan tag) = with_below n kind 0 (entry_lines 0 (entries_of (next_plan (after cs) tag).plan))
number_by n kind cs (of_reply r) =
    let a = replied (after cs) r in
    subst (λ (x : ℕ). NumberPrinted n kind x (replied_to n kind a).lines) ((demand1 cs).numbers (reply r)) (reply_number n kind a (eqb a.number 0) refl)
number_by n kind cs (of_report a) =
    let r = reported (after cs) a in
    subst (λ (x : ℕ). NumberPrinted n kind x (lines_for n kind (after cs) (report a))) ((demand1 cs).numbers (report a))
    (with_below n kind r.number (pick (eqb r.number 0) (report_line r.ac r.id) []))

call_number : (n kind : ℕ) (cs : List Call) (c : Call) → NumberPrinted n kind (number_given cs c) (lines_for n kind (after cs) c)
call_number n kind cs c = number_by n kind cs (prints_of c)

-- ---- what the lines of a call show
entries_read : (n kind : ℕ) (cs : List Call) {c : Call} (p : Prints c)
    → entries_by p (numbers_on (lines_by p n kind (after cs))) ≡ map entry_shown (made_by p (after cs))
entries_read n kind cs plain = refl
entries_read n kind cs (of_plan tag) = plan_lines_read n kind 0 tag (entries_of (next_plan (after cs) tag).plan)
entries_read n kind cs (of_reply r) = refl
entries_read n kind cs (of_report a) = refl

call_shown : (n kind : ℕ) (cs : List Call) (c : Call) → shown_in c (lines_for n kind (after cs) c) ≡ shown_for cs c
call_shown n kind cs c =
    ap₂ (λ (x : ℕ) (l : List EntryShown). record { call = c; number = x; entries = l })
    (call_number n kind cs c).read_as (entries_read n kind cs (prints_of c))

-- what the first k records show is what their calls show
found_shown : (s : List ℕ) (at n : ℕ) (cs : List Call) (v : List Shown) (f : Found) → record_at s at ≡ f → v ≡ shown_of cs
    → seen s f (obeyed_at s n (after cs) f).lines v ≡ shown_of (called s f cs)
unfolding seen called obeyed_at shown_of
found_shown s at n cs v End h e = e
found_shown s at n cs v (Unknown b) h e = e
found_shown s at n cs v (Cut kind) h e = e
found_shown s at n cs v (Whole kind body next) h e =
    let c = call_of s kind body in
    let o = whole_done s at n (after cs) h in
    ap₂ (λ (x : Shown) (l : List Shown). x ∷ l) (ap (λ (y : Obeyed). shown_in c y.lines) o ∙ call_shown n kind cs c) e

pub shown_is : (s : List ℕ) (k : ℕ) → shown_to s k ≡ shown_of (calls_of s k)
unfolding shown_to calls_of record_lines shown_of
shown_is s zero = refl
shown_is s (suc k) = found_shown s (place_of s k) (suc k) (calls_of s k) (shown_to s k) (found_after s k) refl (shown_is s k)

-- ---- a plan's lines
demand_same : {h g : Setup} {w v : List Ask} {es ds : List Entry} {l m : List Ask} → h ≡ g → w ≡ v → es ≡ ds → l ≡ m → Demand3 h w es l → Demand3 g v ds m
demand_same {h} {g} {w} {v} {es} {ds} {l} {m} a b c d x =
    subst (λ (y : Setup). Demand3 y v ds m) a (subst (λ (y : List Ask). Demand3 h y ds m) b
    (subst (λ (y : List Entry). Demand3 h w y m) c (subst (λ (y : List Ask). Demand3 h w es y) d x)))

plan_told : (n kind : ℕ) (cs : List Call) (tag : ℕ) → PlanPrinted n kind (shown_of cs) tag (lines_for n kind (after cs) (plan tag))
plan_told n kind cs tag =
    let s = after cs in
    let es = entries_of (next_plan s tag).plan in
    let text = lines_for n kind s (plan tag) in
    let b : board_on (shown_of cs) tag text ≡ board_for s =
    ap (board_by (known_by (shown_of cs))) (plan_lines_read n kind 0 tag es) ∙ board_read cs tag in
    let placed : es ≡ (board_on (shown_of cs) tag text).placed = plan_shows s tag ∙ sym (ap (λ (x : Board). x.placed) b) in
    record {
      text_is = ap (λ (x : List Entry). answer_line n kind 0 ++ entry_lines 0 x) placed;
      demand =
          demand_same (known_is cs).setup_is (sym (asked_read cs)) placed
          (left_back s (always_kept cs) tag ∙ sym (ap (λ (x : Board). x.waiting) b)) ((plans cs).demand tag);
    }

-- ---- a reply's line
taken_line : (n kind : ℕ) (r : Replied) → r.number ≡ 0 → (replied_to n kind r).lines ≡ reply_line n kind r.flips r.delay (places_in r.buffers.places)
taken_line n kind r e = rw e

refused_line : (n kind : ℕ) (r : Replied) (b : Bool) → eqb r.number 0 ≡ b → (r.number ≡ 0 → ⊥) → (replied_to n kind r).lines ≡ answer_line n kind r.number
refused_line n kind r true e z = absurd (z (eqb-true r.number 0 e))
refused_line n kind r false e z = rw e

-- s − t − 531, as a reader reckons it
delay_read : (cs : List Call) (r : Received)
    → delay_of (entry_for (after cs) r) (start_for (after cs) r)
    ≡ sub_ℕ (start_of r.tag (known_by (shown_of cs)).tag) ((line_of r.entry (shown_of cs)).start + 531)
delay_read cs r =
    ap₂ (λ (p : ℕ) (x : EntryShown). sub_ℕ (start_of r.tag p) (x.start + 531)) (known_is cs).tag_is (sym (line_of_entry cs r.entry))

reply_told : (n kind : ℕ) (cs : List Call) (r : Received) → AreBytes r.message
    → ReplyTold n kind cs (shown_of cs) r (lines_for n kind (after cs) (reply r))
reply_told n kind cs r bytes =
    let a = replied (after cs) r in
    let e = r.entry in
    let same : a.number ≡ number_given cs (reply r) = (demand1 cs).numbers (reply r) in
    let address : (line_of e (shown_of cs)).address ≡ (request_for (after cs) r).address = ap (λ (x : EntryShown). x.address) (line_of_entry cs e) in
    let asks =
    ap (λ (l : List Effect). expected (get_or (in_force l) e no_ask).request) (events_read cs) ∙ ap (λ (x : Ask). expected x.request) (entry_asks cs e) in
    record {
      taken = λ z.
          let y : a.number ≡ 0 = same ∙ z in
          let t = replies cs r bytes y in
          let p = places_told_is (after cs) r y in
          record {
            output = a.buffers.output;
            places = a.buffers.places;
            text_is =
                taken_line n kind a y
                ∙ ap₂ (λ (x : ℕ) (d : ℤ). reply_line n kind x d (places_in a.buffers.places)) p.flips
                (ap (λ (x : Replied). x.delay) (taken (after cs) r y).is ∙ delay_read cs r);
            corrected = rw (address, ← p.flips) t.corrected;
            numbered = numbered a.buffers.places;
            few = p.few;
            format = t.format ∙ sym asks;
          };
      refused = λ z. refused_line n kind a (eqb a.number 0) refl (λ y. z (sym same ∙ y)) ∙ ap (answer_line n kind) same;
    }

-- ---- a report's lines
said_line : (cs : List Call) (a : ℕ) → (reported (after cs) a).number ≡ 0
    → report_line (reported (after cs) a).ac (reported (after cs) a).id ≡ last_said_line (events_by (shown_of cs)) a
said_line cs a z = ap₂ report_line ((ages cs).told AC a z) ((ages cs).told ID a z) ∙ ap (λ (es : List Effect). last_said_line es a) (sym (events_read cs))

below_by : (cs : List Call) (a : ℕ) (b : Bool) → eqb (reported (after cs) a).number 0 ≡ b
    → pick b (report_line (reported (after cs) a).ac (reported (after cs) a).id) [] ≡ pick b (last_said_line (events_by (shown_of cs)) a) []
below_by cs a true e = said_line cs a (eqb-true (reported (after cs) a).number 0 e)
below_by cs a false e = refl

report_told : (n kind : ℕ) (cs : List Call) (a : ℕ) → Told n kind cs (shown_of cs) (report a) (lines_for n kind (after cs) (report a))
report_told n kind cs a =
    let r = reported (after cs) a in
    let same : r.number ≡ number_given cs (report a) = (demand1 cs).numbers (report a) in
    ap₂ (λ (x y : List ℕ). x ++ y) (ap (answer_line n kind) same)
    (below_by cs a (eqb r.number 0) refl ∙ ap (λ (x : ℕ). pick (eqb x 0) (last_said_line (events_by (shown_of cs)) a) []) same)

-- ---- every call, and what stands at a place
told_by_is : (n kind : ℕ) (cs : List Call) {c : Call} (p : Prints c) → BytesBy p → ToldBy p n kind cs (shown_of cs) (lines_by p n kind (after cs))
told_by_is n kind cs {c} plain b = ap (answer_line n kind) ((demand1 cs).numbers c)
told_by_is n kind cs (of_plan tag) b = plan_told n kind cs tag
told_by_is n kind cs (of_reply r) b = reply_told n kind cs r b
told_by_is n kind cs (of_report a) b = report_told n kind cs a

call_told_is : (n kind : ℕ) (cs : List Call) (c : Call) → MessageBytes c → Told n kind cs (shown_of cs) c (lines_for n kind (after cs) c)
call_told_is n kind cs c b = told_by_is n kind cs (prints_of c) b

-- the lines of a record that spells a call are those of the call
whole_lines : (s : List ℕ) (k : ℕ) {kind : ℕ} {c : Call} → Spells s k kind c → record_lines s k ≡ lines_for (suc k) kind (after (calls_of s k)) c
unfolding record_lines obeyed_at
whole_lines s k {kind} h =
    let st = after (calls_of s k) in
    ap (λ (f : Found). (obeyed_at s (suc k) st f).lines) h.whole
    ∙ ap (λ (o : Obeyed). o.lines) (whole_done s (place_of s k) (suc k) st h.whole)
    ∙ ap (lines_for (suc k) kind st) h.call_is

whole_told : (s : List ℕ) (k : ℕ) {kind : ℕ} {c : Call} → Spells s k kind c → MessageBytes c
    → Told (suc k) kind (calls_of s k) (shown_to s k) c (record_lines s k)
whole_told s k {kind} {c} h b =
    let cs = calls_of s k in
    subst (λ (v : List Shown). Told (suc k) kind cs v c (record_lines s k)) (sym (shown_is s k))
    (subst (Told (suc k) kind cs (shown_of cs) c) (sym (whole_lines s k h)) (call_told_is (suc k) kind cs c b))

found_told : (s : List ℕ) (k : ℕ) (f : Found) → AreBytes s → found_after s k ≡ f → Printed s (suc k) (calls_of s k) (shown_to s k) f (record_lines s k)
unfolding record_lines obeyed_at
found_told s k End bytes h = ap (λ (f : Found). (obeyed_at s (suc k) (after (calls_of s k)) f).lines) h
found_told s k (Unknown b) bytes h = ap (λ (f : Found). (obeyed_at s (suc k) (after (calls_of s k)) f).lines) h
found_told s k (Cut kind) bytes h = ap (λ (f : Found). (obeyed_at s (suc k) (after (calls_of s k)) f).lines) h
found_told s k (Whole kind body next) bytes h =
    whole_told s k (record { body = body; next = next; whole = h; call_is = refl }) (message_bytes s (place_of s k) bytes h)

-- ---- for every stream and each of its records, whose lines stand in the transcript by `whole-stands`
-- the lines of record k + 1 are what the demands say of the call that it spells
pub printed : (s : List ℕ) → AreBytes s → (k : ℕ) → Printed s (suc k) (calls_of s k) (shown_to s k) (found_after s k) (record_lines s k)
printed s bytes k = found_told s k (found_after s k) bytes refl

-- (a) the number on its line is the one that the table gives its call, and a reader finds it there
pub number_printed : (s : List ℕ) (k : ℕ) {kind : ℕ} {c : Call} → Spells s k kind c
    → NumberPrinted (suc k) kind (number_given (calls_of s k) c) (record_lines s k)
number_printed s k {kind} {c} h =
    subst (NumberPrinted (suc k) kind (number_given (calls_of s k) c)) (sym (whole_lines s k h)) (call_number (suc k) kind (calls_of s k) c)

-- (b) a taken report prints what the aircraft last said, and how many plans ago, as a reader finds it in the stream and the lines before
pub report_printed : (s : List ℕ) (k : ℕ) {kind a : ℕ} → Spells s k kind (report a) → number_given (calls_of s k) (report a) ≡ 0
    → record_lines s k ≡ answer_line (suc k) kind 0 ++ last_said_line (events_by (shown_to s k)) a
report_printed s k h z = rw z at (whole_told s k h tt)

-- (c) a plan prints entries that meet demand 3 against the waiting list that a reader finds
pub plan_printed : (s : List ℕ) (k : ℕ) {kind tag : ℕ} → Spells s k kind (plan tag) → PlanPrinted (suc k) kind (shown_to s k) tag (record_lines s k)
plan_printed s k h = whole_told s k h tt

-- (d) a taken reply, of bytes, prints how many places of the message differ from the one corrected message, and s − t − 531
pub reply_printed : (s : List ℕ) (k : ℕ) {kind : ℕ} {r : Received} → Spells s k kind (reply r) → AreBytes r.message
    → number_given (calls_of s k) (reply r) ≡ 0 → ReplyPrinted (suc k) kind (shown_to s k) r (record_lines s k)
reply_printed s k h bytes z = (whole_told s k h bytes).taken z

-- ---- what a reader knows after k records is what the station of the run holds
pub reader_knows : (s : List ℕ) (k : ℕ) → Knows (run_after k s begun).station (known_by (shown_to s k))
reader_knows s k =
    subst (λ (st : Station). Knows st (known_by (shown_to s k))) (sym (run_at s k).station)
    (subst (λ (v : List Shown). Knows (after (calls_of s k)) (known_by v)) (sym (shown_is s k)) (known_is (calls_of s k)))

-- and what a caller of its station would have seen
pub reader_sees : (s : List ℕ) (k : ℕ) → events_by (shown_to s k) ≡ events (calls_of s k)
reader_sees s k = ap events_by (shown_is s k) ∙ events_read (calls_of s k)
