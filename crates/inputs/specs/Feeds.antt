-- The next line of an input, as far as the bytes at hand say it: no contract can say what is read.
use Rattle.std.specs.Prelude.{ℕ, ◌+◌, ◌<◌, min, ◌≡◌, true, false, List, ltb, length, take}
use Rattle.inputs.specs.declared.feed.Feed.{Feed}
use Rattle.text_rules.specs.Put.{Put}
use Rattle.text_rules.specs.Line.{line_end, line_at}

-- the bytes of the piece that a state speaks of
abbrev pub at_hand : Feed → List ℕ → List ℕ
at_hand f piece = take (min f.got (length piece)) piece

-- before the first line
abbrev pub at_start : Feed
at_start = record { got = 0; at = 0; size = 0; is_line = false; more = true }

-- at the end of the input a line begun, of which so many bytes are held, is a line
abbrev pub at_end : ℕ → Feed
at_end size = record { got = 0; at = 0; size = size; is_line = ltb 0 size; more = false }

-- the line that ends at hand stands in the buffer, as much of it as there is room for; nothing is read, and the next place stands behind its newline
pub record Next (f : Feed) (piece piece' line line' : List ℕ) (r : Feed) : Type 0 where
  pub is_line : r.is_line ≡ true
  pub laid : Put (line_at (at_hand f piece) f.at) 0 line line' r.size
  pub next : r.at ≡ line_end (at_hand f piece) f.at + 1
  pub got : r.got ≡ min f.got (length piece)
  pub kept : piece' ≡ piece
  pub more : r.more ≡ true

-- what a state is answered by: behind the end of the input no line comes, a line that ends at hand is the next, and where no line
-- comes the input has ended
pub record Fed (f : Feed) (piece piece' line line' : List ℕ) (r : Feed) : Type 0 where
  pub over : f.more ≡ false → r.is_line ≡ false
  pub found : f.more ≡ true → line_end (at_hand f piece) f.at < length (at_hand f piece) → Next f piece piece' line line' r
  pub ended : r.is_line ≡ false → r.more ≡ false
