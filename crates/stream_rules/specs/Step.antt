-- What a whole record does: the lines that it prints, and the station after it.
use Rattle.std.specs.Prelude.{ℕ, ◌-◌, List, [], ◌++◌, eqb, take, drop, replicate}
use Rattle.lists.specs.Lists.{pick}
use Rattle.parity_rules.specs.Places.{places_in}
use Rattle.reader_rules.specs.Records.{message_length}
use Rattle.reader_rules.specs.Fields.{setup_at, edges_at, address_at, request_at, tag_at, reply_at}
use Rattle.station_rules.specs.declared.state.Station.{Station}
use Rattle.station_rules.specs.Answers.{Outcome, Report}
use Rattle.station_rules.specs.State.{entries_of}
use Rattle.station_rules.specs.Calls.{set_up, new_target, removed, moved, requested, reported}
use Rattle.station_rules.specs.Planning.{next_plan}
use Rattle.station_rules.specs.Replies.{received, Replied, replied}
use Rattle.stream_rules.specs.Lines.{answer_line, reply_line, entry_lines, report_line}

-- the lines that a record prints, and the station after it
pub record Obeyed : Type 0 where
  pub lines : List ℕ
  pub station : Station

-- "each record prints number, kind .., answer"
abbrev pub answered : ℕ → ℕ → Outcome → Obeyed
answered n kind a = record { lines = answer_line n kind a.number; station = a.station }

-- no call is made: the number is printed alone
abbrev pub refused_at : ℕ → ℕ → ℕ → Station → Obeyed
refused_at n kind number st = record { lines = answer_line n kind number; station = st }

-- "a plan adds lines", one for each entry
abbrev pub planned_to : ℕ → Station → Obeyed
planned_to n st = record { lines = answer_line n 5 0 ++ entry_lines 0 (entries_of st.plan); station = st }

-- "a taken reply adds flips and delay on that line", and the numbers of the flipped bits
abbrev pub replied_to : ℕ → ℕ → Replied → Obeyed
replied_to n kind r =
    record {
      lines = pick (eqb r.number 0) (reply_line n kind r.flips r.delay (places_in r.buffers.places)) (answer_line n kind r.number);
      station = r.station;
    }

-- "a taken report adds a line"
abbrev pub reported_to : ℕ → Station → Report → Obeyed
reported_to n st r =
    record { lines = answer_line n 8 r.number ++ pick (eqb r.number 0) (report_line r.ac r.id) []; station = st }

-- the bytes of the stream from one place to another
abbrev pub part_of : List ℕ → ℕ → ℕ → List ℕ
part_of s from to = take (to - from) (drop from s)

-- a reply with its message and marks, which are parts of the stream, and the buffer that it is lent twice, for the corrected message and for the places
abbrev pub reply_to : List ℕ → ℕ → ℕ → Station → List ℕ → Replied
reply_to s kind b st lent =
    let q = reply_at s kind b in
    replied st (received q.entry q.tag (part_of s q.message q.marks) (part_of s q.marks q.end) lent lent)

-- the buffer: zeros, as many as the message has bytes
abbrev pub zeros : ℕ → List ℕ
zeros kind = replicate (message_length kind) 0

-- record n, of a kind and with its body at the place b, in a station: 1 setup; 2 new target; 3 remove; 4 request; 5 plan; 6 short reply;
-- 7 long reply; 8 report; 9 move; an unknown kind is refused by 16 before its body, and does nothing here either
unfoldable pub obeyed : List ℕ → ℕ → ℕ → ℕ → Station → Obeyed
obeyed s n kind b st =
    pick (eqb kind 1) (answered n 1 (set_up st (setup_at s b)))
    (pick (eqb kind 2) (answered n 2 (new_target st (edges_at s b).address (edges_at s b).near (edges_at s b).far))
    (pick (eqb kind 3) (answered n 3 (removed st (address_at s b)))
    (pick (eqb kind 4) (answered n 4 (requested st (request_at s b)))
    (pick (eqb kind 5) (planned_to n (next_plan st (tag_at s b)))
    (pick (eqb kind 6) (replied_to n 6 (reply_to s 6 b st (zeros 6)))
    (pick (eqb kind 7) (replied_to n 7 (reply_to s 7 b st (zeros 7)))
    (pick (eqb kind 8) (reported_to n st (reported st (address_at s b)))
    (pick (eqb kind 9) (answered n 9 (moved st (edges_at s b).address (edges_at s b).near (edges_at s b).far))
    (refused_at n kind 16 st)))))))))
