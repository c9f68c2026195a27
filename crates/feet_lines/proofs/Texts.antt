-- The texts of feet from the parts that the code lays one after the other, and what a line's words print.
use Rattle.std.specs.Prelude.{Option, Result, Ok}
use Prim.Native.Nat.{ℕ, ◌-◌, ◌≤◌, ◌<◌}
use native.Mathlib.Omega.{arith}
use mir.Syntax.{w32}
use mir.Val.{SFits, to_z, of_z}
use mir.ValLaws.{to_z-of_z}
use mathlib.Core.Path.{◌≡◌}
use mathlib.Core.List.{List, [], ◌∷◌}
use lib.IntN.{ℤ}
use lib.ListN.{length, take, drop}
use borrow.Author.Tests.{lt-ltb, le-ltb}
use Rattle.text_rules.specs.Put.{decimal, Put}
use Rattle.text_rules.specs.Signed.{signed_decimal}
use Rattle.text_rules.specs.Line.{words_of, word_at, within}
use Rattle.text_rules.specs.Number.{number_in}
use Rattle.text_rules.proofs.Laid.{put_then, put_none}
use Rattle.text_rules.proofs.Words.{words_next, words_end}
use Rattle.text_rules.specs.declared.answer.Span.{Span}
use Rattle.refusals.specs.declared.refusal.Refusal.{Refusal}
use Rattle.refusals.specs.Refusals.{number_given}
use Rattle.altitude_rules.specs.declared.code.Altitude.{Altitude}
use Rattle.altitude_rules.specs.Code.{altitude}
use Rattle.console_rules.specs.FeetLines.{value_text, answer_text, no_code, number_text, words_text, line_text}

-- ---- a code's line

-- what stands behind the number of an altitude
pub value_is : {r : Result Altitude Refusal} {a b : Altitude} {at q : ℕ} {l m : List ℕ} → r ≡ Ok a → a ≡ b → Put (value_text (Ok b)) at l m q
    → Put (value_text r) at l m q
value_is e f p = rw (e, f) p

-- the feet as the call was handed them
pub signed_put : (z : ℤ) {at q : ℕ} {l m : List ℕ} → SFits w32 z → Put (signed_decimal (to_z w32 (of_z w32 z))) at l m q → Put (signed_decimal z) at l m q
signed_put z f p = rw (to_z-of_z w32 z f) at p

pub answer_put : (ac : ℕ) {k : ℕ} {a : Result Altitude Refusal} {at r q : ℕ} {l m o : List ℕ} → a ≡ altitude ac → k ≡ number_given a
    → Put (decimal k) at l m r → Put (value_text a) r m o q → Put (answer_text (altitude ac)) at l o q
unfolding answer_text
answer_put ac e f x y = rw (← e, ← f) (put_then x y)

-- ---- a line's words

-- a first word, or none
module _ (line : List ℕ) (v : Span) (ev : v ≡ word_at line 0) where
  none : v.to ≤ v.from → words_text (words_of line) ≡ []
  unfolding words_text
  none h = rw (words_end line 0 (rw ev at h))

  -- a first word, and a look for a second
  module _ (h : v.from < v.to) (w : Span) (ew : w ≡ word_at line v.to) where
    first_word : words_of line ≡ within line v ∷ words_of (drop v.to line)
    first_word = rw ev (words_next line 0 (rw ev at h))

    two : w.from < w.to → words_text (words_of line) ≡ no_code
    unfolding words_text
    two k = rw (first_word, words_next line v.to (rw ew at k))

    one : w.to ≤ w.from → words_text (words_of line) ≡ number_text (number_in 9 (take (v.to - v.from) (drop v.from line)))
    unfolding words_text within
    one k = rw (first_word, words_end line v.to (rw ew at k))

-- ---- `search spans` lays what a line prints, by the spans of its words
module _ (line : List ℕ) {v : Span} (ev : v ≡ word_at line 0) where
  pub no_word : {l : List ℕ} → v.to ≤ v.from → Put (words_text (words_of line)) 0 l l 0
  no_word {l} h = rw (none line v ev h) (put_none 0 l (omega arith))

  module _ (h : v.from < v.to) {w : Span} (ew : w ≡ word_at line v.to) {q : ℕ} {l m : List ℕ} where
    pub two_words : w.from < w.to → Put no_code 0 l m q → Put (words_text (words_of line)) 0 l m q
    two_words k p = rw (two line v ev h w ew k) p

    pub one_word : {r a : Option ℕ} → w.to ≤ w.from → r ≡ number_in 9 (take (v.to - v.from) (drop v.from line)) → r ≡ a
        → Put (number_text a) 0 l m q → Put (words_text (words_of line)) 0 l m q
    one_word k e f p = rw (one line v ev h w ew k, ← e, f) p

pub ruleset spans = (no_word, two_words, one_word)

-- ---- a whole line: too long, or by its words
module _ (line : List ℕ) {q : ℕ} {l m : List ℕ} where
  pub long_line : 1000 < length line → Put no_code 0 l m q → Put (line_text line) 0 l m q
  unfolding line_text
  long_line h p = rw (lt-ltb 1000 (length line) h) p

  pub short_line : length line ≤ 1000 → Put (words_text (words_of line)) 0 l m q → Put (line_text line) 0 l m q
  unfolding line_text
  short_line h p = rw (le-ltb 1000 (length line) h) p
