-- What is certain of replies with few marks on the printed line, told from what the records before it spell and print.
use Rattle.std.specs.Prelude.{ℕ, suc, ◌+◌, ◌≤◌, ◌≡◌, List, length, get_or}
use Rattle.std.proofs.Math.IntN.{sub_ℕ}
use Rattle.lists.specs.Lists.{Among}
use Rattle.parity_rules.specs.Messages.{differing, AreBytes}
use Rattle.parity_rules.specs.Correction.{size_of}
use Rattle.parity_rules.specs.Places.{places_from}
use Rattle.parity_rules.specs.Corrected.{Fitting}
use Rattle.frames_rules.specs.Reading.{format_of}
use Rattle.station_rules.specs.State.{no_ask}
use Rattle.station_rules.specs.Replies.{Received, expected, start_of}
use Rattle.station_rules.specs.History.{reply}
use Rattle.station_rules.specs.Seen.{in_force}
use Rattle.stream_rules.specs.Lines.{reply_line}
use Rattle.stream_rules.specs.Spelled.{Spells, record_lines}
use Rattle.stream_rules.specs.Reader.{Shown, numbers_on, answer_on, shown_to, known_by, line_of, events_by}
use Rattle.certain.specs.Certain.{marked}
use Rattle.certain.specs.Replies.{before_correction}

-- the line of record n, a reply that is taken as the frame sent: how many places the two differ in, s − t − 531 as a reader reckons it, and these places
abbrev pub sent_line : ℕ → ℕ → List Shown → Received → List ℕ → List ℕ
sent_line n kind v r frame =
    let d = differing r.message frame in
    reply_line n kind (size_of d) (sub_ℕ (start_of r.tag (known_by v).tag) ((line_of r.entry v).start + 531)) (places_from 1 d)

-- of the line of record i + 1, a reply of at most n bytes with at most k marks; the limit is that of the setup in force, as a reader finds it
pub record LinesCertain (n k : ℕ) (s : List ℕ) : Type 0 where
  -- with a limit of k or less a reader never finds 13 there
  pub undoubted : (i : ℕ) {kind : ℕ} {r : Received} → Spells s i kind (reply r) → length r.message ≤ n → (known_by (shown_to s i)).setup.limit ≤ k
      → answer_on (numbers_on (record_lines s i)) ≡ 13 → ⊥
  -- the frame sent has the address on the entry's line as its overlay, the format that the entry's request draws, and differs at marked bits alone: the line
  -- is that of the frame sent, but for what is refused before the correction
  pub sent : (i : ℕ) {kind : ℕ} {r : Received} (frame : List ℕ) → Spells s i kind (reply r) → length r.message ≤ n → AreBytes r.message
      → marked r.marks ≤ k → marked r.marks ≤ (known_by (shown_to s i)).setup.limit
      → Fitting r.message r.marks (line_of r.entry (shown_to s i)).address frame
      → format_of frame ≡ expected (get_or (in_force (events_by (shown_to s i))) r.entry no_ask).request
      → (Among (answer_on (numbers_on (record_lines s i))) before_correction → ⊥)
      → record_lines s i ≡ sent_line (suc i) kind (shown_to s i) r frame
