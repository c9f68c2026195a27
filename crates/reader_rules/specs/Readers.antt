-- The reader, which carries the stream and its place together.
use Rattle.std.specs.Prelude.{ℕ, zero, suc, List}
use Rattle.std.specs.Borrow.{Bor}
use Rattle.lists.specs.Answers.{Answer}
use Rattle.reader_rules.specs.declared.reader.Reader.{Reader}
use Rattle.reader_rules.specs.declared.reading.Found.{Found}
use Rattle.reader_rules.specs.Records.{record_at, next_place}
use Rattle.reader_rules.specs.Answers.{said_at}

-- a reader of a stream at a place
abbrev pub reader_at : Bor (List ℕ) → ℕ → Reader
reader_at s at = record { stream = s; place = at }

-- what the reader finds where it is
abbrev pub found_by : Reader → Found
found_by r = record_at r.stream.now r.place

-- what is answered for it
abbrev pub said_by : Reader → Answer
said_by r = said_at r.stream.now r.place

-- the reader at the next record, of the same stream
abbrev pub moved_on : Reader → Reader
moved_on r = reader_at r.stream (next_place (found_by r) r.place)

-- a reader that went on k times
abbrev pub moved_by : ℕ → Reader → Reader
moved_by zero r = r
moved_by (suc k) r = moved_by k (moved_on r)
