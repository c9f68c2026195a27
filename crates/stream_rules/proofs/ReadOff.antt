-- What the records show is read off the whole transcript: from the bytes of the input and of the transcript alone, for every input.
use borrow.Author.Tests.{ne_eqb}
use Prim.Native.Nat.{ℕ, zero, suc, ◌+◌, ◌-◌, ◌≤◌}
use mathlib.Core.Path.{◌≡◌, refl, ap, ap₂, sym, ◌∙◌}
use mathlib.Core.Bool.{Bool, true, false, not}
use mathlib.Core.List.{List, [], ◌∷◌, ◌++◌, map, append_assoc, append-nil}
use lib.Dec.{eqb}
use Rattle.std.specs.Prelude.{Option, Some, None}
use lib.IntN.{ℤ}
use lib.ListN.{length, get_or, take, length-take}
use lib.Seq.{take_at, drop_at}
use native.Mathlib.Omega.{arith}
use Rattle.std.specs.Prelude.{Option, Some, None}
use Rattle.lists.specs.Lists.{pick, All}
use Rattle.lists.proofs.Held.{all_map}
use Rattle.lists.proofs.Tests.{and_yes, and_no_right}
use Rattle.text_rules.specs.Line.{parts, lines_of}
use Rattle.text_rules.specs.Number.{value_after}
use Rattle.text_rules.specs.Put.{decimal}
use Rattle.text_rules.specs.Signed.{signed_decimal}
use Rattle.text_rules.proofs.Decimal.{decimal_value}
use Rattle.text_rules.proofs.Parted.{Word, decimal_word, signed_word, dash_word}
use Rattle.parity_rules.specs.Places.{places_in}
use Rattle.planner_rules.specs.declared.entry.Entry.{Entry}
use Rattle.reader_rules.specs.declared.reading.Found.{Found}
use Rattle.reader_rules.specs.declared.reading.Found.TheVariants.{End, Unknown, Cut, Whole}
use Rattle.reader_rules.specs.Records.{record_at}
use Rattle.station_rules.specs.declared.state.Heard.{Heard}
use Rattle.station_rules.specs.Answers.{Report}
use Rattle.station_rules.specs.State.{entries_of}
use Rattle.station_rules.specs.Calls.{reported}
use Rattle.station_rules.specs.Planning.{next_plan}
use Rattle.station_rules.specs.Replies.{Replied, replied}
use Rattle.station_rules.specs.History.{Call, plan, after}
use Rattle.station_rules.specs.Kept.{Entered}
use Rattle.station_rules.proofs.Keeping.{always_kept, request_in}
use Rattle.stream_rules.specs.Lines.{answer_line, reply_line, entry_line, entry_lines, value_word, age_word, report_line}
use Rattle.stream_rules.specs.Step.{Obeyed}
use Rattle.stream_rules.specs.Run.{obeyed_at, goes_on, text_from, transcript}
use Rattle.stream_rules.specs.Spelled.{stream_of, call_of, Prints, plain, of_plan, of_reply}
use Rattle.stream_rules.specs.Spelled.{of_report, prints_of, place_of, found_after, calls_of, record_lines}
use Rattle.stream_rules.specs.Spelled.{reached}
use Rattle.stream_rules.specs.Reader.{Shown, numbers_on, shown_on, shown_in, seen, shown_to, is_entry, entries_first}
use Rattle.stream_rules.specs.Reader.{count_by, count_on, Reading, read_whole, read_one}
use Rattle.stream_rules.specs.Reader.{read_to}
use Rattle.stream_rules.proofs.Spelled.{lines_by, lines_for, whole_done}
use Rattle.stream_rules.proofs.ReadBack.{line_read, decimals}
use Rattle.stream_rules.proofs.Stands.{whole_reached, within, onward, one_more}

-- ---- texts of whole lines
-- a text whose lines are these, whatever stands behind it
abbrev Lined : List ℕ → List (List ℕ) → Type 0
Lined text ls = (t : List ℕ) → numbers_on (text ++ t) ≡ ls ++ numbers_on t

lined_then : (a b : List ℕ) (ls ms : List (List ℕ)) → Lined a ls → Lined b ms → Lined (a ++ b) (ls ++ ms)
lined_then a b ls ms h g t =
    ap numbers_on (append_assoc a b t)
    ∙ h (b ++ t)
    ∙ ap (λ (x : List (List ℕ)). ls ++ x) (g t)
    ∙ sym (append_assoc ls ms (numbers_on t))

lined_is : (text : List ℕ) (ls : List (List ℕ)) → Lined text ls → numbers_on text ≡ ls
unfolding lines_of parts
lined_is text ls h = ap numbers_on (sym (append-nil text)) ∙ h [] ∙ append-nil ls

-- words that are given one by one
abbrev values : List (List ℕ) → List ℕ
values ws = map (value_after 0) ws

-- ---- the lines of each call
-- its lines, how many they are beside lines that are none of a plan's entries, and that the first is none
pub record CallLines {c : Call} (p : Prints c) (text : List ℕ) : Type 0 where
  pub lines : List (List ℕ)
  pub lined : Lined text lines
  pub count : (t : List (List ℕ)) → entries_first t ≡ 0 → count_by p (lines ++ t) ≡ length lines
  pub first : (t : List (List ℕ)) → entries_first (lines ++ t) ≡ 0

abbrev answer_words : ℕ → ℕ → ℕ → List (List ℕ)
answer_words n kind number = decimal n ∷ decimal kind ∷ decimal number ∷ []

answer_lined : (n kind number : ℕ) → Lined (answer_line n kind number) (values (answer_words n kind number) ∷ [])
unfolding answer_line All
answer_lined n kind number = line_read (answer_words n kind number) (decimal_word n, (decimal_word kind, (decimal_word number, tt)))

-- a line alone
answer_lines : {c : Call} (p : Prints c) → ((ls : List (List ℕ)) → count_by p ls ≡ 1) → (n kind number : ℕ) → CallLines p (answer_line n kind number)
unfolding entries_first
answer_lines p one n kind number =
    record { lines = values (answer_words n kind number) ∷ []; lined = answer_lined n kind number; count = λ t z. one _; first = λ t. refl }

abbrev reply_words : ℕ → ℕ → ℕ → ℤ → List ℕ → List (List ℕ)
reply_words n kind flips delay ps = decimal n ∷ decimal kind ∷ decimal 0 ∷ decimal flips ∷ signed_decimal delay ∷ map decimal ps

reply_lined : (n kind flips : ℕ) (delay : ℤ) (ps : List ℕ) → Lined (reply_line n kind flips delay ps) (values (reply_words n kind flips delay ps) ∷ [])
unfolding reply_line All
reply_lined n kind flips delay ps =
    line_read (reply_words n kind flips delay ps)
    (decimal_word n, (decimal_word kind, (decimal_word 0, (decimal_word flips, (signed_word delay, decimals ps)))))

-- a line whose third number is 0 is no entry's
no_entry_is : (l : List ℕ) → get_or l 2 0 ≡ 0 → (t : List (List ℕ)) → entries_first (l ∷ t) ≡ 0
unfolding entries_first
no_entry_is l e t = rw (e, and_no_right (eqb (length l) 6) false refl)

reply_lines : {c : Call} (p : Prints c) → ((ls : List (List ℕ)) → count_by p ls ≡ 1) → (n kind : ℕ) (r : Replied) (b : Bool)
    → CallLines p (pick b (reply_line n kind r.flips r.delay (places_in r.buffers.places)) (answer_line n kind r.number))
reply_lines p one n kind r true =
    let ps = places_in r.buffers.places in
    record {
      lines = values (reply_words n kind r.flips r.delay ps) ∷ [];
      lined = reply_lined n kind r.flips r.delay ps;
      count = λ t z. one _;
      first = no_entry_is (values (reply_words n kind r.flips r.delay ps)) (decimal_value 0);
    }
reply_lines p one n kind r false = answer_lines p one n kind r.number

-- a plan's lines
pub record EntriesLined (text : List ℕ) : Type 0 where
  pub lines : List (List ℕ)
  pub lined : Lined text lines
  pub all_six : (t : List (List ℕ)) → entries_first t ≡ 0 → entries_first (lines ++ t) ≡ length lines

-- an entry's address is not 0
abbrev Addressed : Entry → Type 0
Addressed e = e.ask.request.address ≡ 0 → ⊥

is_entry_is : (l : List ℕ) → eqb (length l) 6 ≡ true → (get_or l 2 0 ≡ 0 → ⊥) → is_entry l ≡ true
is_entry_is l six a = and_yes (eqb (length l) 6) (not (eqb (get_or l 2 0) 0)) six (ap not (ne_eqb (get_or l 2 0) 0 a))

entry_lined : (k : ℕ) (es : List Entry) → All Addressed es → EntriesLined (entry_lines k es)
unfolding entry_lines entry_line entries_first All
entry_lined k [] h = record { lines = []; lined = λ t. refl; all_six = λ t z. z }
entry_lined k (e ∷ es) h =
    let later = entry_lined (suc k) es h.1 in
    let ws =
    decimal k ∷ decimal e.ask.request.unit ∷ decimal e.ask.request.address ∷ decimal e.start ∷ decimal _ ∷ decimal _ ∷ [] in
    record {
      lines = values ws ∷ later.lines;
      lined =
          lined_then (entry_line k e) (entry_lines (suc k) es) (values ws ∷ []) later.lines
          (line_read ws (decimal_word _, (decimal_word _, (decimal_word _, (decimal_word _, (decimal_word _, (decimal_word _, tt)))))))
          later.lined;
      all_six = λ t z. rw (is_entry_is (values ws) refl (λ q. h.0 (sym (decimal_value e.ask.request.address) ∙ q))) (ap suc (later.all_six t z));
    }

plan_lines : (n kind tag : ℕ) (es : List Entry) → All Addressed es → CallLines (of_plan tag) (answer_line n kind 0 ++ entry_lines 0 es)
unfolding entries_first
plan_lines n kind tag es h =
    let below = entry_lined 0 es h in
    record {
      lines = values (answer_words n kind 0) ∷ below.lines;
      lined = lined_then (answer_line n kind 0) (entry_lines 0 es) (values (answer_words n kind 0) ∷ []) below.lines (answer_lined n kind 0) below.lined;
      count = λ t z. ap suc (below.all_six t z);
      first = λ t. refl;
    }

-- a report's lines
value_word_is : (v : Option Heard) → Word (value_word v)
unfolding value_word
value_word_is None = dash_word
value_word_is (Some h) = decimal_word h.value

age_word_is : (v : Option Heard) → Word (age_word v)
unfolding age_word
age_word_is None = dash_word
age_word_is (Some h) = decimal_word h.age

abbrev report_words : Option Heard → Option Heard → List (List ℕ)
report_words ac id = value_word ac ∷ age_word ac ∷ value_word id ∷ age_word id ∷ []

report_lined : (ac id : Option Heard) → Lined (report_line ac id) (values (report_words ac id) ∷ [])
unfolding report_line All
report_lined ac id =
    line_read (report_words ac id) (value_word_is ac, (age_word_is ac, (value_word_is id, (age_word_is id, tt))))

two_or_one : (number : ℕ) (b : Bool) → eqb number 0 ≡ b → ◌≡◌ {A = ℕ} (pick (eqb (value_after 0 (decimal number)) 0) 2 1) (pick b 2 1)
two_or_one number b e = rw (decimal_value number, e)

report_lines : (n kind a : ℕ) (r : Report) (b : Bool) → eqb r.number 0 ≡ b
    → CallLines (of_report a) (answer_line n kind r.number ++ pick b (report_line r.ac r.id) [])
unfolding entries_first
report_lines n kind a r true e =
    record {
      lines = values (answer_words n kind r.number) ∷ values (report_words r.ac r.id) ∷ [];
      lined =
          lined_then (answer_line n kind r.number) (report_line r.ac r.id)
          (values (answer_words n kind r.number) ∷ []) (values (report_words r.ac r.id) ∷ [])
          (answer_lined n kind r.number) (report_lined r.ac r.id);
      count = λ t z. two_or_one r.number true e;
      first = λ t. refl;
    }
report_lines n kind a r false e =
    record {
      lines = values (answer_words n kind r.number) ∷ [];
      lined = lined_then (answer_line n kind r.number) [] (values (answer_words n kind r.number) ∷ []) [] (answer_lined n kind r.number) (λ t. refl);
      count = λ t z. two_or_one r.number false e;
      first = λ t. refl;
    }

-- of every history: the requests that were taken have addresses
planned : (cs : List Call) (tag : ℕ) → All Addressed (entries_of (next_plan (after cs) tag).plan)
unfolding after
planned cs tag =
    all_map (Entered (after (plan tag ∷ cs)).targets) Addressed
    (λ e h z. omega (arith, (request_in e.ask.request h.0).1.address_is.0, z)) (entries_of (next_plan (after cs) tag).plan)
    (always_kept (plan tag ∷ cs)).entries

lines_by_is : (n kind : ℕ) (cs : List Call) {c : Call} (p : Prints c) → CallLines p (lines_by p n kind (after cs))
lines_by_is n kind cs plain = answer_lines plain (λ ls. refl) n kind _
lines_by_is n kind cs (of_plan tag) = plan_lines n kind tag (entries_of (next_plan (after cs) tag).plan) (planned cs tag)
lines_by_is n kind cs (of_reply r) = reply_lines (of_reply r) (λ ls. refl) n kind (replied (after cs) r) (eqb (replied (after cs) r).number 0)
lines_by_is n kind cs (of_report a) = report_lines n kind a (reported (after cs) a) (eqb (reported (after cs) a).number 0) refl

-- ---- the text from a record on begins with no entry's line
begins : (s : List ℕ) (at n : ℕ) (cs : List Call) (f : Found) (t : List ℕ) → record_at s at ≡ f
    → entries_first (numbers_on ((obeyed_at s n (after cs) f).lines ++ pick (goes_on f) t [])) ≡ 0
unfolding obeyed_at goes_on entries_first lines_of parts
begins s at n cs End t h = refl
begins s at n cs (Unknown b) t h = ap entries_first (answer_lined n b 16 [])
begins s at n cs (Cut kind) t h = ap entries_first (answer_lined n kind 17 [])
begins s at n cs (Whole kind body next) t h =
    let l = lines_by_is n kind cs (prints_of (call_of s kind body)) in
    ap (λ (o : Obeyed). entries_first (numbers_on (o.lines ++ t))) (whole_done s at n (after cs) h) ∙ ap entries_first (l.lined t) ∙ l.first (numbers_on t)

onward_begins : (j : ℕ) (s : List ℕ) (k : ℕ) → entries_first (numbers_on (onward j s k)) ≡ 0
unfolding text_from entries_first lines_of parts record_lines
onward_begins zero s k = refl
onward_begins (suc j) s k =
    ap (λ (t : List ℕ). entries_first (numbers_on t)) (one_more j s k)
    ∙ begins s (place_of s k) (suc k) (calls_of s k) (found_after s k) (onward j s (suc k)) refl

-- ---- record after record
read_lines : (c : Call) (text : List ℕ) (v : List Shown) (t : List ℕ) → CallLines (prints_of c) text → entries_first (numbers_on t) ≡ 0
    → read_whole c (record { shown = v; left = numbers_on (text ++ t) }) ≡ record { shown = shown_in c text ∷ v; left = numbers_on t }
read_lines c text v t l z =
    let ls = l.lines in
    let n : length ls ≡ count_on c (ls ++ numbers_on t) = sym (l.count (numbers_on t) z) in
    ap (λ (x : List (List ℕ)). read_whole c (record { shown = v; left = x })) (l.lined t)
    ∙ ap₂ (λ (x y : List (List ℕ)). record { shown = shown_on c x ∷ v; left = y })
    (take_at ls (numbers_on t) (count_on c (ls ++ numbers_on t)) n ∙ sym (lined_is text ls l.lined))
    (drop_at ls (numbers_on t) (count_on c (ls ++ numbers_on t)) n)

read_found : (s : List ℕ) (at n : ℕ) (cs : List Call) (f : Found) (v : List Shown) (t : List ℕ) → record_at s at ≡ f → goes_on f ≡ true
    → entries_first (numbers_on t) ≡ 0
    → read_one s f (record { shown = v; left = numbers_on ((obeyed_at s n (after cs) f).lines ++ pick (goes_on f) t []) })
    ≡ record { shown = seen s f (obeyed_at s n (after cs) f).lines v; left = numbers_on t }
unfolding read_one seen obeyed_at goes_on
read_found s at n cs End v t h e z = let w : ◌≡◌ {A = ℕ} 0 1 = cc in absurd (omega arith)
read_found s at n cs (Unknown b) v t h e z = let w : ◌≡◌ {A = ℕ} 0 1 = cc in absurd (omega arith)
read_found s at n cs (Cut kind) v t h e z = let w : ◌≡◌ {A = ℕ} 0 1 = cc in absurd (omega arith)
read_found s at n cs (Whole kind body next) v t h e z =
    let c = call_of s kind body in
    let o = whole_done s at n (after cs) h in
    ap (λ (x : Obeyed). read_whole c (record { shown = v; left = numbers_on (x.lines ++ t) })) o
    ∙ read_lines c (lines_for n kind (after cs) c) v t (lines_by_is n kind cs (prints_of c)) z
    ∙ ap (λ (x : Obeyed). record { shown = shown_in c x.lines ∷ v; left = numbers_on t }) (sym o)

read_on : (s : List ℕ) (k j m : ℕ) → k + j ≡ m → reached s k ≡ true
    → read_to s (onward m s 0) k ≡ record { shown = shown_to s k; left = numbers_on (onward j s k) }
unfolding read_to shown_to reached record_lines
read_on s zero j m e h = let z : j ≡ m = omega (arith, e) in rw z
read_on s (suc k) j m e h =
    ap (read_one s (found_after s k)) (read_on s k (suc j) m (omega (arith, e)) (whole_reached s k h))
    ∙ ap (λ (t : List ℕ). read_one s (found_after s k) (record { shown = shown_to s k; left = numbers_on t })) (one_more j s k)
    ∙ read_found s (place_of s k) (suc k) (calls_of s k) (found_after s k) (shown_to s k) (onward j s (suc k)) refl h (onward_begins j s (suc k))

-- what the records show stands in the bytes of the input and of the transcript
pub read_off : (input : List ℕ) (k : ℕ) → reached (stream_of input) k ≡ true
    → (read_to (stream_of input) (transcript input) k).shown ≡ shown_to (stream_of input) k
unfolding transcript place_of calls_of after
read_off input k h =
    let s = stream_of input in
    let b = within s k h in
    let l : length (take 65536 input) ≤ 65536 = simp length-take (omega arith) in
    ap (λ (r : Reading). r.shown) (read_on s k (65537 - k) 65537 (omega (arith, b.0, b.1, l)) h)
