-- The lines of a text one after the other: what a loop over them keeps true.
use Prim.Native.Nat.{ℕ, ◌+◌, ◌-◌, ◌≤◌, ◌<◌, min}
use native.Mathlib.Omega.{arith}
use mathlib.Core.Path.{◌≡◌, refl, sym, ap, ◌∙◌}
use mathlib.Core.Bool.{Bool, true, false}
use mathlib.Core.List.{List, []}
use lib.Dec.{ltb}
use lib.ListN.{length, get_or, drop, drop_of_length-le}
use lib.Seq.{take-nil, drop-drop, get_or-drop}
use borrow.Author.Tests.{ltb-true, ltb-false}
use Rattle.text_rules.specs.declared.answer.Span.{Span}
use Rattle.text_rules.specs.Line.{parts, lines_of, line_end, line_after, line_at, LineTo, LineHeld, NthLine}
use Rattle.text_rules.proofs.Lines.{lines_next, line_end_after}

-- a loop has come to the i-th line, which begins at the place at
pub record LineCome (s : List ℕ) (i at : ℕ) : Type 0 where
  pub inside : at ≤ length s
  pub rest : drop i (lines_of s) ≡ lines_of (drop at s)

module _ (s : List ℕ) where
  pub line_first : LineCome s 0 0
  line_first = record { inside = omega arith; rest = refl }

  none_left : {at : ℕ} → length s ≤ at → lines_of (drop at s) ≡ []
  unfolding lines_of parts
  none_left h = rw (drop_of_length-le s h)

  cut_by : (n : ℕ) (t : Bool) → ltb (length s) n ≡ t → drop (min (length s) n) s ≡ drop n s
  cut_by n true e =
      let k : length s < n = ltb-true _ _ e in
      let m : min (length s) n ≡ length s = omega arith in
      let a : length s ≤ n = omega arith in
      let b : length s ≤ length s = omega arith in
      rw (m, drop_of_length-le s a, drop_of_length-le s b)
  cut_by n false e = let k : n ≤ length s = ltb-false _ _ e in let m : min (length s) n ≡ n = omega arith in rw m

  cut : (n : ℕ) → drop (min (length s) n) s ≡ drop n s
  cut n = cut_by n (ltb (length s) n) refl

  behind_by : (at : ℕ) (t : Bool) → ltb at (length s) ≡ t → at ≤ length s → drop 1 (lines_of (drop at s)) ≡ lines_of (drop (line_after s (line_end s at)) s)
  behind_by at true e h = ap (drop 1) (lines_next s at (ltb-true _ _ e)) ∙ ap lines_of (sym (cut (line_end s at + 1)))
  behind_by at false e h =
      let k : length s ≤ at = ltb-false _ _ e in
      let l : length s ≤ line_after s (line_end s at) = omega (arith, line_end_after s at h) in
      ap (drop 1) (none_left k) ∙ sym (none_left l)

  -- the line at a place is the first of those from there on
  first_by : (at : ℕ) (t : Bool) → ltb at (length s) ≡ t → line_at s at ≡ get_or (lines_of (drop at s)) 0 []
  unfolding line_at
  first_by at true e = sym (ap (λ (l : List (List ℕ)). get_or l 0 []) (lines_next s at (ltb-true _ _ e)))
  first_by at false e =
      let k : length s ≤ at = ltb-false _ _ e in
      rw (none_left k, drop_of_length-le s k, take-nil (line_end s at - at))

  pub line_next : {i at to next : ℕ} → LineCome s i at → LineTo s at to → next ≡ line_after s to → LineCome s (i + 1) next
  line_next {i} {at} {to} {next} c l e =
      record {
        inside = omega arith;
        rest = sym (drop-drop 1 i (lines_of s)) ∙ ap (drop 1) c.rest ∙ behind_by at (ltb at (length s)) refl c.inside ∙ rw (e, l.is);
      }

  pub line_come : {i k at : ℕ} {w : Span} → LineCome s i at → i ≤ k → k ≤ i → LineHeld s at w → NthLine s k w
  line_come {i} {k} {at} c a b h =
      let e : i + 0 ≡ k = omega arith in
      let g : get_or (lines_of (drop at s)) 0 [] ≡ get_or (lines_of s) k [] =
      ap (λ (l : List (List ℕ)). get_or l 0 []) (sym c.rest) ∙ get_or-drop i (lines_of s) 0 [] ∙ ap (λ (j : ℕ). get_or (lines_of s) j []) e in
      record { text = h.text ∙ first_by at (ltb at (length s)) refl ∙ g; order = h.order; fits = h.fits }
