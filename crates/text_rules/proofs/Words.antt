-- Laws of words: the word that a call finds and the words after it.
use Prim.Native.Nat.{ℕ, suc, ◌+◌, ◌-◌, ◌≤◌, ◌<◌}
use native.Mathlib.Omega.{arith, min_cases}
use mathlib.Core.Path.{◌≡◌, refl, sym, ap, ◌∙◌}
use mathlib.Core.List.{List, [], ◌∷◌}
use mathlib.Core.Bool.{Bool, true, false, not, ◌&&◌, false≢true}
use lib.Seq.{get_or-take, get_or-drop, drop-drop, drop-length}
use lib.ListN.{length, get_or, take, drop, length-drop, length-take, drop_of_length-le}
use lib.Dec.{ltb, eqb}
use borrow.Author.Tests.{ltb-true, ltb-false, eq-eqb, eqb-true}
use Rattle.text_rules.specs.Line.{blank, in_word, parts, full, words_of, front, run_end, word_at, within, NextWord, same_as}
use Rattle.text_rules.specs.declared.answer.Span.{Span}
use Rattle.text_rules.proofs.Runs.{front_more, front_stop, run_is, run_fits, run_none, run_more, run_at_end}
use Rattle.text_rules.proofs.Lines.{part_ends, part_first}

pub in_word_is : (b : ℕ) → in_word b ≡ not (blank b)
unfolding in_word
in_word_is b = refl

-- a blank before a line changes no word
words_blank : (b : ℕ) (t : List ℕ) → blank b ≡ true → words_of (b ∷ t) ≡ words_of t
unfolding words_of full
words_blank b t h = rw (part_ends blank in_word in_word_is b t h)

skip_by : (b : ℕ) (t : List ℕ) (v : Bool) → blank b ≡ v → words_of t ≡ words_of (drop (front blank t) t)
    → words_of (b ∷ t) ≡ words_of (drop (front blank (b ∷ t)) (b ∷ t))
skip_by b t true e h = rw (front_more blank b t e) (words_blank b t e ∙ h)
skip_by b t false e h = rw (front_stop blank b t e)

words_skip : (t : List ℕ) → words_of t ≡ words_of (drop (front blank t) t)
unfolding front
words_skip [] = refl
words_skip (b ∷ t) = skip_by b t (blank b) refl (words_skip t)

-- the blank behind a word belongs to no word
past_by : (b : ℕ) (t : List ℕ) (v : Bool) → blank b ≡ v → words_of (drop (front in_word t) t) ≡ words_of (drop (suc (front in_word t)) t)
    → words_of (drop (front in_word (b ∷ t)) (b ∷ t)) ≡ words_of (drop (suc (front in_word (b ∷ t))) (b ∷ t))
past_by b t true e h = rw (front_stop in_word b t (in_word_is b ∙ ap not e)) (words_blank b t e)
past_by b t false e h = rw (front_more in_word b t (in_word_is b ∙ ap not e)) h

words_past : (t : List ℕ) → words_of (drop (front in_word t) t) ≡ words_of (drop (suc (front in_word t)) t)
unfolding front
words_past [] = refl
words_past (b ∷ t) = past_by b t (blank b) refl (words_past t)

first_by : (b : ℕ) (t : List ℕ) (v : Bool) → blank b ≡ v → 0 < front in_word (b ∷ t)
    → words_of (b ∷ t) ≡ take (front in_word (b ∷ t)) (b ∷ t) ∷ words_of (drop (front in_word (b ∷ t)) (b ∷ t))
unfolding words_of full
first_by b t true e h = absurd (omega (arith, front_stop in_word b t (in_word_is b ∙ ap not e)))
first_by b t false e h =
    rw (part_first blank in_word in_word_is b t, front_more in_word b t (in_word_is b ∙ ap not e))
    (ap (λ (ws : List (List ℕ)). (b ∷ take (front in_word t) t) ∷ ws) (sym (words_past t)))

words_first : (t : List ℕ) → 0 < front in_word t → words_of t ≡ take (front in_word t) t ∷ words_of (drop (front in_word t) t)
unfolding front
words_first [] h = absurd (omega arith)
words_first (b ∷ t) h = first_by b t (blank b) refl h

-- ---- words by their places

module _ (line : List ℕ) (at : ℕ) where
  from_is : (word_at line at).from ≡ run_end blank line at
  unfolding word_at
  from_is = refl

  to_is : (word_at line at).to ≡ run_end in_word line (word_at line at).from
  unfolding word_at
  to_is = refl

  from_fits : (word_at line at).from ≤ length line
  from_fits = omega (arith, from_is, run_fits blank line at)

  -- the span stands in the line, and at or after the place
  pub word_to : (word_at line at).to ≤ length line
  word_to = omega (arith, to_is, run_fits in_word line (word_at line at).from)

  pub word_from : (word_at line at).from ≤ (word_at line at).to
  word_from = omega (arith, to_is, run_is in_word line (word_at line at).from from_fits)

  pub next_word : {r : Span} → r ≡ word_at line at → NextWord line at r
  next_word e = record { is = e; order = rw e word_from; fits = rw e word_to }

  pub word_after : at ≤ length line → at ≤ (word_at line at).from
  word_after h = omega (arith, from_is, run_is blank line at h)

  pub word_length : length (within line (word_at line at)) ≡ (word_at line at).to - (word_at line at).from
  unfolding within
  word_length = simp (length-take, length-drop) (omega (arith, word_to))

  pub word_at_is : (k : ℕ) → k < (word_at line at).to - (word_at line at).from
      → get_or (within line (word_at line at)) k 0 ≡ get_or line ((word_at line at).from + k) 0
  unfolding within
  word_at_is k h = rw (
    get_or-take ((word_at line at).to - (word_at line at).from) (drop (word_at line at).from line) k 0 h,
    get_or-drop (word_at line at).from line k 0,
  )

  pub words_from : words_of (drop at line) ≡ words_of (drop (word_at line at).from line)
  words_from =
      min_cases (length line) at _
      (λ h e. rw (from_is, run_none blank line at h, drop_of_length-le line h, drop-length line))
      (λ h e. rw (from_is, run_is blank line at h, ← drop-drop (front blank (drop at line)) at line) (words_skip (drop at line)))

  -- the words from a place on: the one that the span holds, and those from behind it on
  pub words_next : (word_at line at).from < (word_at line at).to
      → words_of (drop at line) ≡ within line (word_at line at) ∷ words_of (drop (word_at line at).to line)
  unfolding within
  words_next h =
      let f : ℕ = (word_at line at).from in
      let n : ℕ = front in_word (drop f line) in
      let e : (word_at line at).to ≡ f + n = to_is ∙ run_is in_word line f from_fits in
      let d : (word_at line at).to - f ≡ n = omega arith in
      words_from ∙ rw (d, e, ← drop-drop n f line) (words_first (drop f line) (omega arith))

  end_by : (v : Bool) → ltb (word_at line at).from (length line) ≡ v → (word_at line at).to ≤ (word_at line at).from
      → words_of (drop (word_at line at).from line) ≡ []
  unfolding words_of parts full
  end_by true e h =
      let f : ℕ = (word_at line at).from in
      let k : f < length line = ltb-true f (length line) e in
      let b : blank (get_or line f 0) ≡ false = rw from_is (run_at_end blank line at (omega (arith, from_is))) in
      let m : run_end in_word line (f + 1) ≡ run_end in_word line f = run_more in_word line f k (in_word_is (get_or line f 0) ∙ ap not b) in
      absurd (omega (arith, to_is, run_is in_word line (f + 1) (omega arith)))
  end_by false e h = rw (drop_of_length-le line (ltb-false (word_at line at).from (length line) e))

  -- an empty span: there is no word left
  pub words_end : (word_at line at).to ≤ (word_at line at).from → words_of (drop at line) ≡ []
  words_end h = words_from ∙ end_by (ltb (word_at line at).from (length line)) refl h

-- ---- a word that is a name

same_by : (x y : ℕ) (a b : List ℕ) (v : Bool) → eqb x y ≡ v → (v && same_as a b) ≡ true → (same_as a b ≡ true → a ≡ b) → x ∷ a ≡ y ∷ b
same_by x y a b true e h ih = rw (eqb-true x y e, ih h)
same_by x y a b false e h ih = absurd (false≢true h)

pub same_true : (a b : List ℕ) → same_as a b ≡ true → a ≡ b
unfolding same_as
same_true [] [] e = refl
same_true [] (y ∷ b) e = absurd (false≢true e)
same_true (x ∷ a) [] e = absurd (false≢true e)
same_true (x ∷ a) (y ∷ b) e = same_by x y a b (eqb x y) refl e (same_true a b)

pub same_refl : (a : List ℕ) → same_as a a ≡ true
unfolding same_as
same_refl [] = refl
same_refl (x ∷ a) = rw (eq-eqb x x refl) (same_refl a)

pub same_of : {a b : List ℕ} → a ≡ b → same_as a b ≡ true
same_of {a} {b} e = rw e (same_refl b)

-- two tests that follow from one another are one
pub one_test : (r s : Bool) → (r ≡ true → s ≡ true) → (s ≡ true → r ≡ true) → r ≡ s
one_test true s f g = sym (f refl)
one_test false true f g = g refl
one_test false false f g = refl
