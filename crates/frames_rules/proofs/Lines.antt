-- A line's condition, and what a builder needs, from what the calls before it gave: for the proofs of the calls, by `search lines`.
use mathlib.Core.Path.{◌≡◌, refl, sym, ap, ◌∙◌}
use mathlib.Core.Bool.{Bool, true, false, not}
use mathlib.Core.List.{List, [], ◌∷◌}
use Prim.Native.Nat.{ℕ}
use lib.Dec.{eqb}
use lib.ListN.{length, get_or}
use borrow.Author.Tests.{le-leb, lt-leb, eq-eqb, ne_eqb, not-true, not-false}
use Rattle.lists.specs.Lists.{pick}
use Rattle.std.specs.Prelude.{Ok, Err}
use Rattle.lists.specs.Answers.{Answer, done, refusal, refused_by}
use Rattle.lists.specs.Checks.{checked, given, None}
use Rattle.lists.proofs.Tests.{and_yes, and_no_left, and_no_right, or_yes_left, or_no, and_rest, or_rest}
use Rattle.lists.proofs.Checks.{tests, view, CameTo, was_refused, was_done, came_to, number_refused}
use Rattle.refusals.specs.declared.refusal.Refusal.{Refusal}
use Rattle.refusals.specs.Refusals.{number_of}
use Rattle.parity_rules.specs.Messages.{bits, seven_or_fourteen}
use Rattle.parity_rules.specs.Answers.{reckoned_said}
use Rattle.parity_rules.specs.Division.{remainder_of}
use Rattle.parity_rules.proofs.Unique.{apart}
use Rattle.frames_rules.specs.Fields.{head_of, mid_of, value_at, at_uf}
use Rattle.frames_rules.specs.Formats.{length_of, listed}
use Rattle.frames_rules.specs.Building.{selective_ranged}
use Rattle.frames_rules.specs.Reading.{format_of, read_checks, read_as}
use Rattle.frames_rules.proofs.Ranges.{format_length}

-- ---- a length against what a call gave
pub told_same : {m r n : ℕ} → r ≡ n → m ≡ r → m ≡ n
told_same e h = h ∙ e

pub told_other : {m r n : ℕ} → r ≡ n → (m ≡ r → ⊥) → m ≡ n → ⊥
told_other e h q = h (q ∙ sym e)

-- a buffer of 7 bytes, and one as long as a format has bytes
pub laid_short : {m : ℕ} → m ≡ 7 → seven_or_fourteen m ≡ true
laid_short h = ap seven_or_fourteen h

pub laid : (f : ℕ) {m r : ℕ} → r ≡ length_of f → m ≡ r → seven_or_fourteen m ≡ true
laid f e h = ap seven_or_fourteen (h ∙ e) ∙ format_length f

-- ---- a condition on a number that a call gave
pub ranged_told : (uf pc rr di sd address : ℕ) {mid n : ℕ} {b : Bool} (v : Bool) → mid ≡ n → b ≡ selective_ranged uf pc rr di sd mid address → not b ≡ v
    → not (selective_ranged uf pc rr di sd n address) ≡ v
ranged_told uf pc rr di sd address v q e h = ap (λ (x : ℕ). not (selective_ranged uf pc rr di sd x address)) (sym q) ∙ ap not (sym e) ∙ h

pub listed_told : (m : List ℕ) (n : ℕ) {head : ℕ} {b : Bool} (v : Bool) → head ≡ head_of m → b ≡ listed (value_at at_uf head) n → not b ≡ v
    → not (listed (format_of m) n) ≡ v
listed_told m n v q e h = ap (λ (x : ℕ). not (listed (value_at at_uf x) n)) (sym q) ∙ ap not (sym e) ∙ h

pub format_told : (m : List ℕ) (f : ℕ) {head : ℕ} → head ≡ head_of m → value_at at_uf head ≡ f → eqb (format_of m) f ≡ true
format_told m f q h = eq-eqb (format_of m) f (ap (value_at at_uf) (sym q) ∙ h)

pub format_other : (m : List ℕ) (f : ℕ) {head : ℕ} → head ≡ head_of m → (value_at at_uf head ≡ f → ⊥) → eqb (format_of m) f ≡ false
format_other m f q h = ne_eqb (format_of m) f (λ e. h (ap (value_at at_uf) q ∙ e))

-- ---- the fields that are read, from the parts that calls gave
module _ (eleven : ℕ → ℕ → Answer) (others : ℕ → ℕ → ℕ → Answer) (m : List ℕ) {a : Answer} where
  pub read_eleven : {head r : ℕ} → a ≡ eleven head r → head ≡ head_of m → r ≡ remainder_of (bits m) → value_at at_uf head ≡ 11
      → a ≡ pick (eqb (format_of m) 11) (eleven (head_of m) (remainder_of (bits m))) (others (head_of m) (mid_of m) (remainder_of (bits m)))
  read_eleven e h k f = rw (format_told m 11 h f, ← h, ← k) e

  pub read_others : {head mid r : ℕ} → a ≡ others head mid r → head ≡ head_of m → mid ≡ mid_of m → r ≡ remainder_of (bits m) → (value_at at_uf head ≡ 11 → ⊥)
      → a ≡ pick (eqb (format_of m) 11) (eleven (head_of m) (remainder_of (bits m))) (others (head_of m) (mid_of m) (remainder_of (bits m)))
  read_others e h j k f = rw (format_other m 11 h f, ← h, ← j, ← k) e

-- ---- a message whose length and format are judged: what the judgement's answer says
pub record Judged (m : List ℕ) (head : ℕ) : Type 0 where
  pub none : None (read_checks m)
  pub sized : seven_or_fourteen (length m) ≡ true
  pub head_is : head ≡ head_of m

module _ (m : List ℕ) where
  pub head_judged : (head : ℕ) → reckoned_said (Ok head) ≡ checked (read_checks m) refused_by (done (head_of m ∷ [])) → Judged m head
  unfolding read_checks
  head_judged head e = go (checked (read_checks m) refused_by (done (head_of m ∷ []))) e (came_to refused_by (done (head_of m ∷ [])) (read_checks m) refl)
    where
      go : (x : Answer) → reckoned_said (Ok head) ≡ x → CameTo (read_checks m) refused_by (done (head_of m ∷ [])) x → Judged m head
      go x e (was_refused c z k g q) = absurd (z (sym (ap (λ (y : Answer). y.number) (e ∙ q))))
      go x e (was_done p g q) =
          record { none = p.none; sized = not-false _ (p.off 1); head_is = ap (λ (y : Answer). get_or y.values 0 0) (e ∙ q) }

  -- where it is refused the reading is refused by the same number
  pub head_refused : (eleven : ℕ → ℕ → Answer) (others : ℕ → ℕ → ℕ → Answer) (r : Refusal)
      → reckoned_said (Err r) ≡ checked (read_checks m) refused_by (done (head_of m ∷ [])) → refusal (number_of r) ≡ read_as eleven others m
  unfolding read_checks read_as
  head_refused eleven others r e =
      let n : number_of r ≡ given (read_checks m) =
      ap (λ (y : Answer). y.number) e ∙ view (λ (y : Answer). y.number) (read_checks m) refused_by (done (head_of m ∷ [])) in
      ap refusal n ∙ number_refused (read_checks m) _ refl refusal (λ z. apart r (sym (n ∙ z)))

pub ruleset lines = (tests, told_same, told_other, ranged_told, listed_told, format_told, format_other, and_yes, and_no_left, and_no_right)

-- ---- whether numbers are in their ranges, by the tests that were made one after the other: `search ranges`
pub told_no : {b x : Bool} → b ≡ x → not b ≡ true → x ≡ false
told_no {b} e h = sym e ∙ not-true b h

pub told_yes : {b x : Bool} → b ≡ x → not b ≡ false → x ≡ true
told_yes {b} e h = sym e ∙ not-false b h

pub ruleset ranges = (and_yes, and_no_left, and_no_right, or_yes_left, or_no, and_rest, or_rest, le-leb, lt-leb, eq-eqb, ne_eqb, told_no, told_yes)
