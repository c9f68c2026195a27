-- Laws of lines: the line at a place and the lines after it, for a run over all lines of an input.
use Prim.Native.Nat.{ℕ, suc, ◌+◌, ◌-◌, ◌≤◌, ◌<◌, min}
use native.Mathlib.Omega.{arith}
use mathlib.Core.Path.{◌≡◌, refl, sym, ap, ◌∙◌}
use mathlib.Core.List.{List, [], ◌∷◌}
use mathlib.Core.Bool.{Bool, true, false, not}
use lib.Seq.{drop-cons, drop-drop, get_or-drop, get_or-take}
use lib.ListN.{length, get_or, take, drop, length-drop, length-take, drop_of_length-le}
use borrow.Author.Tests.{not-true, eq-eqb, ne_eqb}
use Rattle.text_rules.specs.Line.{newline, in_line, grown, parts, lines_of, front, run_end, line_end, line_at, line_span, within, LineTo, LineHeld}
use Rattle.text_rules.proofs.Runs.{front_more, front_stop, run_is, run_fits, run_inside}

-- ---- the first part of a text, and the parts after it

module _ (ends inside : ℕ → Bool) (other : (b : ℕ) → inside b ≡ not (ends b)) where
  abbrev First : List ℕ → Type 0
  First t = parts ends t ≡ take (front inside t) t ∷ parts ends (drop (suc (front inside t)) t)

  pub part_ends : (b : ℕ) (t : List ℕ) → ends b ≡ true → parts ends (b ∷ t) ≡ [] ∷ parts ends t
  unfolding parts
  part_ends b t h = rw h

  part_grows : (b : ℕ) (t : List ℕ) → ends b ≡ false → parts ends (b ∷ t) ≡ grown b (parts ends t)
  unfolding parts
  part_grows b t h = rw h

  last_by : (b : ℕ) (v : Bool) → ends b ≡ v → First (b ∷ [])
  unfolding parts grown front
  last_by b true e = rw (other b, e)
  last_by b false e = rw (other b, e)

  step_by : (b : ℕ) (t : List ℕ) (v : Bool) → ends b ≡ v → First t → First (b ∷ t)
  unfolding grown
  step_by b t true e h = rw (part_ends b t e, front_stop inside b t (other b ∙ ap not e))
  step_by b t false e h = rw (part_grows b t e, front_more inside b t (other b ∙ ap not e), h)

  pub part_first : (b : ℕ) (t : List ℕ) → First (b ∷ t)
  part_first b [] = last_by b (ends b) refl
  part_first b (c ∷ t) = step_by b (c ∷ t) (ends b) refl (part_first c t)

-- ---- lines by their places

in_line_is : (b : ℕ) → in_line b ≡ not (newline b)
unfolding in_line
in_line_is b = refl

pub line_stops : (b : ℕ) → b ≡ 10 → in_line b ≡ false
unfolding in_line newline
line_stops b h = rw (eq-eqb b 10 h)

pub line_goes : (b : ℕ) → (b ≡ 10 → ⊥) → in_line b ≡ true
unfolding in_line newline
line_goes b h = rw (ne_eqb b 10 h)

module _ (s : List ℕ) (at : ℕ) where
  pub line_end_fits : line_end s at ≤ length s
  unfolding line_end
  line_end_fits = run_fits in_line s _

  line_end_is : at ≤ length s → line_end s at ≡ at + front in_line (drop at s)
  unfolding line_end
  line_end_is h = run_is in_line s at h

  pub line_end_after : at ≤ length s → at ≤ line_end s at
  line_end_after h = omega (arith, line_end_is h)

  pub line_to : {r : ℕ} → r ≡ line_end s at → LineTo s at r
  unfolding line_end run_end
  line_to e = record { is = e; fits = omega arith; after = omega arith }

  -- the lines from a place on: the one that begins there, and those from behind its newline on
  pub lines_next : at < length s → lines_of (drop at s) ≡ line_at s at ∷ lines_of (drop (line_end s at + 1) s)
  unfolding lines_of line_at
  lines_next h =
      let n : ℕ = front in_line (drop at s) in
      let e : line_end s at ≡ at + n = line_end_is (omega arith) in
      let first : parts newline (drop at s) ≡ take n (drop at s) ∷ parts newline (drop (suc n) (drop at s)) =
      rw (drop-cons s at 0 h) (part_first newline in_line in_line_is (get_or s at 0) (drop (suc at) s)) in
      let a : line_end s at - at ≡ n = omega arith in
      let b : line_end s at + 1 ≡ at + suc n = omega arith in
      rw (a, b, ← drop-drop (suc n) at s) first

  -- behind the last line there is none
  pub lines_end : length s ≤ at → lines_of (drop at s) ≡ []
  unfolding lines_of parts
  lines_end h = rw (drop_of_length-le s h)

  -- the span of a line; behind the input's end there is none
  module _ {to : ℕ} (e : to ≡ line_end s at) where
    pub held_from : at ≤ to → LineHeld s at (record { from = at; to = to })
    unfolding within line_at line_span
    held_from h =
        let m : min at to ≡ at = omega arith in
        record { is = rw (← e, m); text = rw e; end = e; order = h; fits = omega (arith, line_end_fits) }

    pub held_none : to < at → LineHeld s at (record { from = to; to = to })
    unfolding within line_at line_span
    held_none h =
        let m : min at to ≡ to = omega arith in
        let a : to - to ≡ 0 = omega arith in
        let b : line_end s at - at ≡ 0 = omega arith in
        record { is = rw (← e, m); text = rw (a, b); end = e; order = omega arith; fits = omega (arith, line_end_fits) }

  pub line_length : length (line_at s at) ≡ line_end s at - at
  unfolding line_at
  line_length = simp (length-take, length-drop) (omega (arith, line_end_fits))

  pub line_at_is : (k : ℕ) → k < length (line_at s at) → get_or (line_at s at) k 0 ≡ get_or s (at + k) 0
  unfolding line_at
  line_at_is k h =
      let n : k < line_end s at - at = omega (arith, line_length) in
      rw (get_or-take (line_end s at - at) (drop at s) k 0 n, get_or-drop at s k 0)

  -- no newline stands in a line
  pub line_clear : (k : ℕ) → k < length (line_at s at) → newline (get_or (line_at s at) k 0) ≡ false
  unfolding line_end
  line_clear k h =
      let e : in_line (get_or s (at + k) 0) ≡ true = run_inside in_line s at k (omega (arith, line_length)) in
      rw (line_at_is k h) (not-true (newline (get_or s (at + k) 0)) (sym (in_line_is (get_or s (at + k) 0)) ∙ e))
