-- What is certain of replies on the lines of every stream.
use mathlib.Core.Path.{◌≡◌, sym, ap, subst, ◌∙◌}
use mathlib.Core.List.{List}
use Prim.Native.Nat.{ℕ, ◌+◌}
use native.Mathlib.Omega.{arith}
use lib.IntN.{sub_ℕ}
use lib.ListN.{get_or}
use Rattle.lists.specs.Lists.{Among}
use Rattle.parity_rules.specs.Messages.{bits, differing}
use Rattle.parity_rules.specs.Correction.{size_of}
use Rattle.parity_rules.specs.Places.{places_from, places_in}
use Rattle.parity_rules.specs.Corrected.{Fitting}
use Rattle.planner_rules.specs.declared.setup.Setup.{Setup}
use Rattle.planner_rules.specs.declared.request.Ask.{Ask}
use Rattle.planner_rules.specs.Told.{EntryShown}
use Rattle.station_rules.specs.State.{no_ask}
use Rattle.station_rules.specs.Replies.{Received, Replied, request_for, expected, start_of, replied}
use Rattle.station_rules.specs.History.{reply, after}
use Rattle.station_rules.specs.Seen.{Effect, in_force, setup_seen}
use Rattle.station_rules.proofs.Setups.{setup_seen_is}
use Rattle.station_rules.proofs.Demands.{demand1}
use Rattle.stream_rules.specs.Lines.{reply_line}
use Rattle.stream_rules.specs.Spelled.{number_given, Spells, record_lines, calls_of}
use Rattle.stream_rules.specs.Reader.{Shown, numbers_on, answer_on, shown_to, known_by, line_of, events_by}
use Rattle.stream_rules.specs.Printed.{ReplyPrinted}
use Rattle.stream_rules.proofs.Reader.{known_is, line_of_entry, entry_asks, events_read}
use Rattle.stream_rules.proofs.Printed.{shown_is, number_printed, reply_printed}
use Rattle.certain.specs.Certain.{Certain}
use Rattle.certain.specs.Replies.{before_correction}
use Rattle.certain.specs.Lines.{sent_line, LinesCertain}
use Rattle.certain.proofs.Replies.{replies_certain}

-- the number on the line of a reply is that which the reply call is given
pub line_is : (s : List ℕ) (i : ℕ) {kind : ℕ} {r : Received} → Spells s i kind (reply r)
    → (replied (after (calls_of s i)) r).number ≡ answer_on (numbers_on (record_lines s i))
line_is s i {kind} {r} h = (demand1 (calls_of s i)).numbers (reply r) ∙ sym (number_printed s i h).read_as

-- ---- what a reader finds is what the station holds
module _ (s : List ℕ) (i : ℕ) (r : Received) where
  limit_read : (known_by (shown_to s i)).setup.limit ≡ (setup_seen (calls_of s i)).limit
  limit_read =
      ap (λ (v : List Shown). (known_by v).setup.limit) (shown_is s i)
      ∙ ap (λ (g : Setup). g.limit) (sym (known_is (calls_of s i)).setup_is ∙ setup_seen_is (calls_of s i))

  address_read : (line_of r.entry (shown_to s i)).address ≡ (request_for (after (calls_of s i)) r).address
  address_read =
      ap (λ (v : List Shown). (line_of r.entry v).address) (shown_is s i) ∙ ap (λ (x : EntryShown). x.address) (line_of_entry (calls_of s i) r.entry)

  format_read : expected (get_or (in_force (events_by (shown_to s i))) r.entry no_ask).request ≡ expected (request_for (after (calls_of s i)) r)
  format_read =
      ap (λ (v : List Shown). expected (get_or (in_force (events_by v)) r.entry no_ask).request) (shown_is s i)
      ∙ ap (λ (l : List Effect). expected (get_or (in_force l) r.entry no_ask).request) (events_read (calls_of s i))
      ∙ ap (λ (x : Ask). expected x.request) (entry_asks (calls_of s i) r.entry)

-- a taken reply prints the one message that fits
printed_sent : {n kind : ℕ} {v : List Shown} {r : Received} {text : List ℕ} (frame : List ℕ) → ReplyPrinted n kind v r text
    → Fitting r.message r.marks (line_of r.entry v).address frame → text ≡ sent_line n kind v r frame
printed_sent {n} {kind} {v} {r} frame p fits =
    let d : bits p.places ≡ differing r.message frame = p.corrected.places ∙ ap (differing r.message) (sym (p.corrected.only frame fits)) in
    let delay = sub_ℕ (start_of r.tag (known_by v).tag) ((line_of r.entry v).start + 531) in
    p.text_is
    ∙ ap (λ (m : ℕ). reply_line n kind m delay (places_in p.places)) p.corrected.flips
    ∙ ap (λ (u : List ℕ). reply_line n kind (size_of u) delay (places_from 1 u)) d

pub lines_certain : (n k : ℕ) → Certain n k → (s : List ℕ) → LinesCertain n k s
lines_certain n k certain s =
    record {
      undoubted = λ i {kind} {r} h l low e.
          (replies_certain n k certain (calls_of s i)).undoubted r l (omega (arith, limit_read s i r)) (line_is s i h ∙ e);
      sent = λ i {kind} {r} frame h l bytes few low fits format other.
          let cs = calls_of s i in
          let taken = (replies_certain n k certain cs).sent r frame l bytes (omega arith) (omega (arith, limit_read s i r))
          (subst (λ (a : ℕ). Fitting r.message r.marks a frame) (address_read s i r) fits) (format ∙ format_read s i r)
          (λ a. other (subst (λ (x : ℕ). Among x before_correction) (line_is s i h) a)) in
          let zero_is : number_given cs (reply r) ≡ 0 = sym ((demand1 cs).numbers (reply r)) ∙ ap (λ (x : Replied). x.number) taken in
          printed_sent frame (reply_printed s i h bytes zero_is) fits;
    }
