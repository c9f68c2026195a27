-- A whole record moves the place forward by its kind and its body, and never beyond the end.
use Prim.Native.Nat.{ℕ, ◌+◌, ◌-◌, ◌≤◌, ◌<◌}
use native.Mathlib.Omega.{arith}
use mathlib.Core.Path.{◌≡◌, refl, sym, ap, ◌∙◌}
use mathlib.Core.Bool.{Bool, true, false, ◌&&◌, false≢true}
use mathlib.Core.List.{List}
use lib.ListN.{length, get_or}
use lib.Dec.{eqb, ltb}
use borrow.Author.Tests.{eqb-false, ltb-true, ltb-false, lt-ltb, le-ltb}
use Rattle.lists.specs.Lists.{pick}
use Rattle.lists.specs.Checks.{Check}
use Rattle.lists.proofs.Checks.{Passed, CameTo, was_refused, was_done, came_to, all, end}
use Rattle.lists.proofs.Tests.{and_no_left}
use Rattle.reader_rules.specs.declared.reading.Found.{Found}
use Rattle.reader_rules.specs.declared.reading.Found.TheVariants.{End, Unknown, Cut, Whole}
use Rattle.reader_rules.specs.Records.{body_length, place_checks, not_whole, whole_or_end, record_at}

-- what a whole record says of its place: the kind is known, its body follows the byte of kind, and the next place follows the body
pub record Fits (s : List ℕ) (at k b n : ℕ) : Type 0 where
  pub kind : k ≡ get_or s at 0
  pub known : body_length k ≡ 0 → ⊥
  pub body : b ≡ at + 1
  pub next : n ≡ b + body_length k
  pub inside : n ≤ length s

-- no line of the table is a whole record
line_not_whole : (x : Check) {k b n : ℕ} → not_whole x ≡ Whole k b n → ⊥
line_not_whole x {k} {b} {n} = go (eqb x.number 16)
  where
    go : (t : Bool) → pick t (Unknown x.beside) (Cut x.beside) ≡ Whole k b n → ⊥
    go true e = let z : ◌≡◌ {A = ℕ} 0 1 = cc in omega arith
    go false e = let z : ◌≡◌ {A = ℕ} 0 1 = cc in omega arith

and_off : (a b : Bool) → a ≡ true → a && b ≡ false → b ≡ false
and_off true b e h = h
and_off false b e h = absurd (false≢true e)

module _ (s : List ℕ) (at : ℕ) {k b n : ℕ} where
  by_lines : Passed (place_checks s at) → whole_or_end s at ≡ Whole k b n → Fits s at k b n
  unfolding place_checks
  by_lines p = go (ltb at (length s)) refl
    where
      kind : ℕ
      kind = get_or s at 0

      go : (t : Bool) → ltb at (length s) ≡ t → pick t (Whole kind (at + 1) (at + 1 + body_length kind)) End ≡ Whole k b n → Fits s at k b n
      go false x e = let z : ◌≡◌ {A = ℕ} 0 1 = cc in absurd (omega arith)
      go true x e =
          let ek : kind ≡ k = cc in
          let eb : at + 1 ≡ b = cc in
          let en : at + 1 + body_length kind ≡ n = cc in
          let ef : body_length kind ≡ body_length k = ap body_length ek in
          let h = ltb-true at (length s) x in
          let u = eqb-false (body_length kind) 0 (and_off (ltb at (length s)) (eqb (body_length kind) 0) x (p.off 16)) in
          let l = ltb-false (length s - (at + 1)) (body_length kind) (and_off (ltb at (length s)) (ltb (length s - (at + 1)) (body_length kind)) x
          (p.off 17)) in
          record { kind = cc; known = λ z. u (ef ∙ z); body = omega arith; next = omega arith; inside = omega arith }

  pub whole_fits : record_at s at ≡ Whole k b n → Fits s at k b n
  unfolding record_at
  whole_fits e = go (record_at s at) (came_to not_whole (whole_or_end s at) (place_checks s at) refl) e
    where
      go : (r : Found) → CameTo (place_checks s at) not_whole (whole_or_end s at) r → r ≡ Whole k b n → Fits s at k b n
      go r (was_refused x z i g q) e = absurd (line_not_whole x (sym q ∙ e))
      go r (was_done p g q) e = by_lines p (sym q ∙ e)

-- ---- at the end there is nothing, and before it the byte of a kind
module _ (s : List ℕ) (at : ℕ) where
  pub nothing_there : length s ≤ at → whole_or_end s at ≡ End
  nothing_there h = rw (le-ltb at (length s) h)

  pub past_end : length s ≤ at → record_at s at ≡ End
  unfolding record_at
  past_end h =
      let off = le-ltb at (length s) h in
      sym (end not_whole (whole_or_end s at) all (and_no_left _ _ off, (and_no_left _ _ off, tt))) ∙ nothing_there h

  pub whole_there : (n : ℕ) → at < length s → n ≡ body_length (get_or s at 0) → Whole (get_or s at 0) (at + 1) (at + 1 + n) ≡ whole_or_end s at
  whole_there n h e = rw (lt-ltb at (length s) h, e)

-- a step takes each byte at most once: it goes forward, and not beyond the end
pub forward : (s : List ℕ) (at : ℕ) {k b n : ℕ} → record_at s at ≡ Whole k b n → (at < n) × (n ≤ length s)
forward s at e = let f = whole_fits s at e in (omega (arith, f.body, f.next), f.inside)
