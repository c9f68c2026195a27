-- An input that comes in pieces: what is held of a line while it comes.
use Rattle.std.specs.Prelude.{ℕ, ◌≡◌, List, [], ◌∷◌, ◌++◌, ltb, length}
use Rattle.text_rules.specs.declared.answer.Gathered.{Gathered}
use Rattle.text_rules.specs.Put.{Put}
use Rattle.text_rules.specs.Line.{line_end, line_after, line_at}

-- at the end of the input a line begun is a line
abbrev pub last_line : List ℕ → List (List ℕ)
last_line [] = []
last_line (b ∷ l) = (b ∷ l) ∷ []

-- the whole input, of its pieces
abbrev pub together : List (List ℕ) → List ℕ
together [] = []
together (p ∷ ps) = p ++ together ps

-- a piece was taken from a place on, up to the end of a line or of the piece: what it has of the line is laid behind the n bytes held, as far as there is room;
-- the next place stands behind the newline, or at the piece's end; and whether the line ended
pub record Gathers (before after : List ℕ) (n : ℕ) (piece : List ℕ) (at : ℕ) (r : Gathered) : Type 0 where
  pub laid : Put (line_at piece at) n before after r.size
  pub next : r.next ≡ line_after piece (line_end piece at)
  pub ended : r.ended ≡ ltb (line_end piece at) (length piece)
