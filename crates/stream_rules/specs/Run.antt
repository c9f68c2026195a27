-- One record after the other: the text of a whole stream, and the run as the code carries it.
use Rattle.std.specs.Prelude.{ℕ, zero, suc, ◌+◌, ◌-◌, ◌%◌, ◌^◌, Bool, true, false, List, [], ◌++◌, leb, length, take}
use Rattle.lists.specs.Lists.{pick}
use Rattle.reader_rules.specs.declared.reading.Found.{Found}
use Rattle.reader_rules.specs.declared.reading.Found.TheVariants.{End, Unknown, Cut, Whole}
use Rattle.reader_rules.specs.Records.{record_at, next_place}
use Rattle.reader_rules.specs.Answers.{found_number}
use Rattle.station_rules.specs.declared.state.Station.{Station}
use Rattle.station_rules.specs.State.{before_setup}
use Rattle.stream_rules.specs.declared.run.Run.{Run}
use Rattle.stream_rules.specs.Step.{Obeyed, refused_at, obeyed}

-- ---- what stands at a place of the stream
-- as record n: nothing; "unknown record kind"; "record cut by the end of the stream"; what a whole record does
unfoldable pub obeyed_at : List ℕ → ℕ → Station → Found → Obeyed
obeyed_at s n st End = record { lines = []; station = st }
obeyed_at s n st (Unknown b) = refused_at n b (found_number (Unknown b)) st
obeyed_at s n st (Cut kind) = refused_at n kind (found_number (Cut kind)) st
obeyed_at s n st (Whole kind body next) = obeyed s n kind body st

-- "kinds 16 and 17 of refusal end the run", as the end of the stream does
unfoldable pub goes_on : Found → Bool
goes_on End = false
goes_on (Unknown b) = false
goes_on (Cut kind) = false
goes_on (Whole kind body next) = true

-- ---- the text of a stream
-- the text of the records from a place on, the first of them being record n: at most k records
unfoldable pub text_from : ℕ → List ℕ → ℕ → ℕ → Station → List ℕ
text_from zero s at n st = []
text_from (suc k) s at n st =
    let f = record_at s at in
    let o = obeyed_at s n st f in
    o.lines ++ pick (goes_on f) (text_from k s (next_place f at) (n + 1) o.station) []

-- "the first 64 KiB of standard input as the whole stream": every record has a byte of its own, so 65,537 are more than there are
unfoldable pub transcript : List ℕ → List ℕ
transcript input = text_from 65537 (take 65536 input) 0 1 before_setup

-- ---- the run as the code carries it
-- before the first record
unfoldable pub begun : Run
begun = record { station = before_setup; at = 0; n = 1; more = true }

-- what the next record does
unfoldable pub obeyed_now : List ℕ → Run → Obeyed
obeyed_now s r = obeyed_at s r.n r.station (record_at s r.at)

-- the lines of the next record; a run that has ended has none
unfoldable pub lines_now : List ℕ → Run → List ℕ
lines_now s r = pick r.more (obeyed_now s r).lines []

-- after the next record. Records are counted on 32 bits, which no stream of 65,536 bytes fills
unfoldable pub stepped : List ℕ → Run → Run
stepped s r =
    record {
      station = (obeyed_now s r).station;
      at = next_place (record_at s r.at) r.at;
      n = (r.n + 1) % 2 ^ 32;
      more = goes_on (record_at s r.at);
    }

-- a run that has ended stays as it is
unfoldable pub advanced : List ℕ → Run → Run
advanced s r =
    let q = stepped s r in
    pick r.more q r

-- the run after k steps more
unfoldable pub run_after : ℕ → List ℕ → Run → Run
run_after zero s r = r
run_after (suc k) s r = run_after k s (advanced s r)

-- the lines of k steps, one after the other
unfoldable pub written : ℕ → List ℕ → Run → List ℕ
written zero s r = []
written (suc k) s r = lines_now s r ++ written k s (advanced s r)

-- ---- lines held back in a buffer
-- the buffer's bytes, and the most that the lines of one record have: 36 of the answer and 72 of each of 128 entries
abbrev pub room : ℕ
room = 10240

abbrev pub longest : ℕ
longest = 9252

-- whether the lines of one record more might not fit behind those held
unfoldable pub is_full : ℕ → Bool
is_full held = leb (room - longest) held

-- what a program writes in k steps that holds lines back: those held when one record more might not fit, and at the end the rest
unfoldable pub written_late : ℕ → List ℕ → Run → List ℕ → List ℕ
written_late zero s r held = held
written_late (suc k) s r held =
    pick (is_full (length held))
    (held ++ written_late k s (advanced s r) (lines_now s r))
    (written_late k s (advanced s r) (held ++ lines_now s r))
