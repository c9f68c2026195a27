-- Lines of an input and words of a line.
use Rattle.std.specs.Prelude.{ℕ, zero, suc, ◌+◌, ◌-◌, ◌≤◌, min, ◌≡◌, List, [], ◌∷◌, Bool, true, false, not, ◌||◌, ◌&&◌, eqb, length, get_or, take, drop}
use Rattle.lists.specs.Lists.{pick}
use Rattle.text_rules.specs.declared.answer.Span.{Span}

-- a space, a tab or a carriage return
unfoldable pub blank : ℕ → Bool
blank b = eqb b 32 || eqb b 9 || eqb b 13

unfoldable pub in_word : ℕ → Bool
in_word b = not (blank b)

unfoldable pub newline : ℕ → Bool
newline b = eqb b 10

unfoldable pub in_line : ℕ → Bool
in_line b = not (newline b)

-- ---- parts of a text

-- a byte more at the front of the first part
unfoldable pub grown : ℕ → List (List ℕ) → List (List ℕ)
grown b [] = (b ∷ []) ∷ []
grown b (t ∷ ts) = (b ∷ t) ∷ ts

-- the parts of a text, each ended by a byte that the test takes or by the text's end; after such a byte at the text's end there is no part
unfoldable pub parts : (ℕ → Bool) → List ℕ → List (List ℕ)
parts ends [] = []
parts ends (b ∷ t) = pick (ends b) ([] ∷ parts ends t) (grown b (parts ends t))

-- the parts that are not empty
unfoldable pub full : List (List ℕ) → List (List ℕ)
full [] = []
full ([] ∷ ts) = full ts
full ((b ∷ t) ∷ ts) = (b ∷ t) ∷ full ts

-- the lines of an input, parted by newlines
unfoldable pub lines_of : List ℕ → List (List ℕ)
lines_of s = parts newline s

-- the words of a line: the longest runs of bytes that are no blank
unfoldable pub words_of : List ℕ → List (List ℕ)
words_of line = full (parts blank line)

-- the word is the name, byte for byte
unfoldable pub same_as : List ℕ → List ℕ → Bool
same_as [] [] = true
same_as [] (b ∷ t) = false
same_as (a ∷ s) [] = false
same_as (a ∷ s) (b ∷ t) = eqb a b && same_as s t

-- ---- lines and words by their places

-- how many bytes at the front the test takes
unfoldable pub front : (ℕ → Bool) → List ℕ → ℕ
front p [] = 0
front p (b ∷ t) = pick (p b) (suc (front p t)) 0

-- the first place at or after at whose byte the test does not take, or the length
unfoldable pub run_end : (ℕ → Bool) → List ℕ → ℕ → ℕ
run_end p s at = min (length s) (at + front p (drop at s))

-- the place of the first newline at or after at, or the length
unfoldable pub line_end : List ℕ → ℕ → ℕ
line_end s at = run_end in_line s at

-- the place behind the newline at a line's end, or the length
abbrev pub line_after : List ℕ → ℕ → ℕ
line_after s end = min (length s) (end + 1)

-- the line that begins at at
unfoldable pub line_at : List ℕ → ℕ → List ℕ
line_at s at = take (line_end s at - at) (drop at s)

-- its span; behind the input's end the empty span there
unfoldable pub line_span : List ℕ → ℕ → Span
line_span s at = record { from = min at (line_end s at); to = line_end s at }

-- the next word at or after at; where there is none, the empty span at the line's end
unfoldable pub word_at : List ℕ → ℕ → Span
word_at line at = record { from = run_end blank line at; to = run_end in_word line (run_end blank line at) }

-- the k-th word, from 0: each is looked for where the one before it ends
unfoldable pub nth_at : List ℕ → ℕ → Span
nth_at line zero = word_at line 0
nth_at line (suc k) = word_at line (nth_at line k).to

-- what stands in a span
unfoldable pub within : List ℕ → Span → List ℕ
within line w = take (w.to - w.from) (drop w.from line)

-- ---- what the calls answer: the bounds follow, and stand here so that a part of the slice needs no law

pub record LineTo (s : List ℕ) (at r : ℕ) : Type 0 where
  pub is : r ≡ line_end s at
  pub fits : r ≤ length s
  pub after : min at (length s) ≤ r

-- the line that begins at a place
pub record LineHeld (s : List ℕ) (at : ℕ) (r : Span) : Type 0 where
  pub is : r ≡ line_span s at
  pub text : within s r ≡ line_at s at
  pub end : r.to ≡ line_end s at
  pub order : r.from ≤ r.to
  pub fits : r.to ≤ length s

pub record NextWord (line : List ℕ) (at : ℕ) (r : Span) : Type 0 where
  pub is : r ≡ word_at line at
  pub order : r.from ≤ r.to
  pub fits : r.to ≤ length line

-- the k-th word of a line, from 0: the empty one where there is none
pub record NthWord (line : List ℕ) (k : ℕ) (r : Span) : Type 0 where
  pub is : r ≡ nth_at line k
  pub text : within line r ≡ get_or (words_of line) k []
  pub order : r.from ≤ r.to
  pub fits : r.to ≤ length line

-- the k-th line of a text, from 0: the empty one where there is none
pub record NthLine (s : List ℕ) (k : ℕ) (r : Span) : Type 0 where
  pub text : within s r ≡ get_or (lines_of s) k []
  pub order : r.from ≤ r.to
  pub fits : r.to ≤ length s
