-- The words of a line one after the other: what a loop over them keeps true.
use Prim.Native.Nat.{ℕ, suc, ◌+◌, ◌-◌, ◌≤◌, ◌<◌}
use native.Mathlib.Omega.{arith}
use mathlib.Core.Path.{◌≡◌, refl, sym, ap, ◌∙◌}
use mathlib.Core.Bool.{Bool, true, false}
use mathlib.Core.List.{List, [], ◌∷◌}
use lib.Dec.{ltb}
use lib.ListN.{length, get_or, drop, length-drop}
use lib.Seq.{drop-drop, get_or-drop}
use borrow.Author.Tests.{ltb-true, ltb-false}
use Rattle.text_rules.specs.declared.answer.Span.{Span}
use Rattle.text_rules.specs.Line.{words_of, word_at, nth_at, within, NextWord, NthWord}
use Rattle.text_rules.proofs.Words.{word_to, word_from, word_after, words_from, words_next, words_end}

module _ (line : List ℕ) (at : ℕ) where
  behind_by : (t : Bool) → ltb (word_at line at).from (word_at line at).to ≡ t → drop 1 (words_of (drop at line)) ≡ words_of (drop (word_at line at).to line)
  behind_by true e = rw (words_next line at (ltb-true _ _ e))
  behind_by false e =
      let h : (word_at line at).to ≤ (word_at line at).from = ltb-false _ _ e in
      let same : (word_at line at).to ≡ (word_at line at).from = omega (arith, word_from line at) in
      let none = words_end line at h in
      rw (none, same) (sym (sym (words_from line at) ∙ none))

  -- the words behind the one that the span holds
  behind : drop 1 (words_of (drop at line)) ≡ words_of (drop (word_at line at).to line)
  behind = behind_by (ltb (word_at line at).from (word_at line at).to) refl

  first_by : (t : Bool) → ltb (word_at line at).from (word_at line at).to ≡ t → within line (word_at line at) ≡ get_or (words_of (drop at line)) 0 []
  unfolding within
  first_by true e = rw (words_next line at (ltb-true _ _ e))
  first_by false e =
      let h : (word_at line at).to ≤ (word_at line at).from = ltb-false _ _ e in
      let z : (word_at line at).to - (word_at line at).from ≡ 0 = omega arith in
      rw (words_end line at h, z)

  -- the word that the span holds, or the empty one
  first : within line (word_at line at) ≡ get_or (words_of (drop at line)) 0 []
  first = first_by (ltb (word_at line at).from (word_at line at).to) refl

-- a loop has come to the i-th word, which w holds: it was looked for at the place at
pub record Come (line : List ℕ) (i : ℕ) (w : Span) : Type 0 where
  pub at : ℕ
  pub is : w ≡ word_at line at
  pub nth : w ≡ nth_at line i
  pub rest : drop i (words_of line) ≡ words_of (drop at line)

module _ (line : List ℕ) where
  nth_next : (i : ℕ) → nth_at line (i + 1) ≡ word_at line (nth_at line i).to
  unfolding nth_at
  nth_next i = let e : i + 1 ≡ suc i = omega arith in rw e

  pub come_first : (w : Span) → NextWord line 0 w → Come line 0 w
  unfolding nth_at
  come_first w n = record { at = 0; is = n.is; nth = n.is; rest = refl }

  pub come_next : (i : ℕ) (w v : Span) → Come line i w → NextWord line w.to v → Come line (i + 1) v
  come_next i w v c n =
      let e : w.to ≡ (word_at line c.at).to = ap (λ (x : Span). x.to) c.is in
      record {
        at = (word_at line c.at).to;
        is = rw e at n.is;
        nth = n.is ∙ ap (λ (x : Span). word_at line x.to) c.nth ∙ sym (nth_next i);
        rest = sym (drop-drop 1 i (words_of line)) ∙ ap (drop 1) c.rest ∙ behind line c.at;
      }

  pub come_to : (k : ℕ) (w : Span) → Come line k w → NthWord line k w
  come_to k w c =
      record {
        is = c.nth;
        text =
            rw c.is
            (first line c.at
            ∙ ap (λ (l : List (List ℕ)). get_or l 0 []) (sym c.rest)
            ∙ get_or-drop k (words_of line) 0 []
            ∙ ap (λ (j : ℕ). get_or (words_of line) j []) (omega arith));
        order = rw c.is (word_from line c.at);
        fits = rw c.is (word_to line c.at);
      }

-- ---- counting them

-- a loop has counted n words, and w is the next one: each took a byte at least
pub record Counting (line : List ℕ) (n : ℕ) (w : Span) : Type 0 where
  pub come : Come line n w
  pub inside : n ≤ length (words_of line)
  pub few : n ≤ w.from
  pub order : w.from ≤ w.to
  pub fits : w.to ≤ length line

module _ (line : List ℕ) where
  pub count_first : (w : Span) → NextWord line 0 w → Counting line 0 w
  count_first w n = record { come = come_first line w n; inside = omega arith; few = omega arith; order = n.order; fits = n.fits }

  module _ (n : ℕ) (w : Span) (c : Counting line n w) where
    at_word : w.from < w.to → drop n (words_of line) ≡ within line (word_at line c.come.at) ∷ words_of (drop (word_at line c.come.at).to line)
    at_word h = c.come.rest ∙ words_next line c.come.at (rw c.come.is at h)

    pub count_next : (v : Span) → w.from < w.to → NextWord line w.to v → Counting line (n + 1) v
    count_next v h x =
        let m = come_next line n w v c.come x in
        let l : length (drop n (words_of line)) ≡ suc (length (words_of (drop (word_at line c.come.at).to line))) = ap length (at_word h) in
        let after : w.to ≤ v.from = rw x.is (word_after line w.to c.fits) in
        record { come = m; inside = omega (arith, length-drop n (words_of line)); few = omega (arith, c.few); order = x.order; fits = x.fits }

    -- the next word begins behind this one
    pub goes_on : (v : Span) → w.from < w.to → NextWord line w.to v → length line - v.from < length line - w.from
    goes_on v h x =
        let after : w.to ≤ v.from = rw x.is (word_after line w.to c.fits) in
        omega (arith, c.fits)

    pub count_end : w.to ≤ w.from → n ≡ length (words_of line)
    count_end h =
        let e : length (drop n (words_of line)) ≡ 0 = ap length (c.come.rest ∙ words_end line c.come.at (rw c.come.is at h)) in
        omega (arith, c.inside, length-drop n (words_of line))
