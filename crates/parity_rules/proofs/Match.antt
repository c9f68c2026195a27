-- How the matching subsets of a mark list come from those of its tail, and how many there are.
use mathlib.Core.Path.{◌≡◌, refl, sym, ap, ap₂, ◌∙◌}
use mathlib.Core.Bool.{Bool, true, false}
use mathlib.Core.List.{List, [], ◌∷◌, ◌++◌, map}
use Prim.Native.Nat.{ℕ, zero, suc, ◌+◌, ◌^◌, ◌≤◌, ◌<◌}
use native.Mathlib.Nat.{pow-suc}
use native.Mathlib.Omega.{arith}
use lib.Bits.{bit_xor, xor_comm}
use lib.Dec.{eqb}
use lib.ListN.{length, length-map, length-append}
use borrow.Author.Tests.{eq-eqb, ne_eqb, eqb-true, eqb-false}
use Rattle.lists.specs.Lists.{pick, filter, All}
use Rattle.lists.proofs.Each.{all_image}
use Rattle.lists.proofs.Checks.{tests}
use Rattle.lists.proofs.Filter.{filter_append, filter_map}
use Rattle.lists.proofs.Held.{all_append, all_map, all_of}
use Rattle.parity_rules.specs.Division.{syndrome}
use Rattle.parity_rules.specs.Correction.{subsets, xor_of, matching}
use Rattle.parity_rules.specs.Steps.{syndromes_of, back, ways}
use Rattle.lists.proofs.Xor.{xor_move}

-- ---- two tests that say the same
same : (a b c d : ℕ) → (a ≡ b → c ≡ d) → (c ≡ d → a ≡ b) → eqb a b ≡ eqb c d
same a b c d f g = go (eqb a b) refl
  where
    go : (t : Bool) → eqb a b ≡ t → eqb a b ≡ eqb c d
    go true e = e ∙ sym (eq-eqb c d (f (eqb-true a b e)))
    go false e = e ∙ sym (ne_eqb c d (λ q. eqb-false a b e (g q)))

-- a term goes to the other side of a test
pub eqb_move : (a x w : ℕ) → eqb (bit_xor a x) w ≡ eqb x (bit_xor w a)
eqb_move a x w =
    same (bit_xor a x) w x (bit_xor w a) (λ e. xor_move x a w (xor_comm x a ∙ e))
    (λ e. xor_comm a x ∙ sym (xor_move w a x (sym e)))

-- ---- the length of every subset
pub subsets_length : (ms : List ℕ) → All (λ s. length s ≡ length ms) (subsets ms)
unfolding All subsets
subsets_length [] = (refl, tt)
subsets_length (zero ∷ ms) =
    all_image (λ s. 0 ∷ s) (λ s. length s ≡ length ms) (λ s. length s ≡ suc (length ms)) (λ s e. ap suc e) (subsets ms) (subsets_length ms)
subsets_length (suc m ∷ ms) =
    all_append (λ s. length s ≡ suc (length ms)) (map (λ s. 1 ∷ s) (subsets ms)) (map (λ s. 0 ∷ s) (subsets ms))
    (all_image (λ s. 1 ∷ s) (λ s. length s ≡ length ms) (λ s. length s ≡ suc (length ms)) (λ s e. ap suc e) (subsets ms) (subsets_length ms))
    (all_image (λ s. 0 ∷ s) (λ s. length s ≡ length ms) (λ s. length s ≡ suc (length ms)) (λ s e. ap suc e) (subsets ms) (subsets_length ms))

-- ---- the matching subsets, from those of the tail
not_taken : (want : ℕ) (ms : List ℕ) → filter (λ s. eqb (xor_of s) want) (map (λ s. 0 ∷ s) (subsets ms)) ≡ map (λ s. 0 ∷ s) (matching want ms)
unfolding matching xor_of
not_taken want ms = filter_map (λ s. eqb (xor_of s) want) (λ s. eqb (xor_of s) want) (λ s. 0 ∷ s) (subsets ms) (all_of _ (λ s. refl) (subsets ms))

taken : (want : ℕ) (ms : List ℕ)
    → filter (λ s. eqb (xor_of s) want) (map (λ s. 1 ∷ s) (subsets ms)) ≡ map (λ s. 1 ∷ s) (matching (bit_xor want (syndrome (length ms))) ms)
unfolding matching xor_of
taken want ms =
    filter_map (λ s. eqb (xor_of s) want) (λ s. eqb (xor_of s) (bit_xor want (syndrome (length ms)))) (λ s. 1 ∷ s) (subsets ms)
    (all_map (λ s. length s ≡ length ms) _
    (λ s e. ap (λ (n : ℕ). eqb (bit_xor (syndrome n) (xor_of s)) want) e ∙ eqb_move (syndrome (length ms)) (xor_of s) want) (subsets ms)
    (subsets_length ms))

pub matching_plain : (want : ℕ) (ms : List ℕ) → matching want (0 ∷ ms) ≡ map (λ s. 0 ∷ s) (matching want ms)
unfolding matching subsets
matching_plain want ms = not_taken want ms

pub matching_mark : (want m : ℕ) (ms : List ℕ)
    → matching want (suc m ∷ ms) ≡ map (λ s. 1 ∷ s) (matching (bit_xor want (syndrome (length ms))) ms) ++ map (λ s. 0 ∷ s) (matching want ms)
unfolding matching subsets
matching_mark want m ms =
    filter_append (λ s. eqb (xor_of s) want) (map (λ s. 1 ∷ s) (subsets ms)) (map (λ s. 0 ∷ s) (subsets ms))
    ∙ ap₂ ◌++◌ (taken want ms) (not_taken want ms)

-- ---- how many match
one_or_none : (b : Bool) → ◌≡◌ {A = ℕ} (length {A = List ℕ} (pick b ([] ∷ []) [])) (pick b 1 0)
one_or_none true = refl
one_or_none false = refl

count_none : (want : ℕ) → length (matching want []) ≡ pick (eqb want 0) 1 0
unfolding filter matching subsets xor_of
count_none want = one_or_none (eqb 0 want) ∙ ap (λ (b : Bool). pick b 1 0) (same 0 want want 0 sym sym)

pub count_law : (want : ℕ) (ms : List ℕ) → length (matching want ms) ≡ ways want (syndromes_of ms)
unfolding ways syndromes_of
count_law want [] = count_none want
count_law want (zero ∷ ms) = rw (matching_plain want ms, length-map) (count_law want ms)
count_law want (suc m ∷ ms) =
    rw (matching_mark want m ms) (simp (length-append, length-map) (ap₂ ◌+◌ (count_law (bit_xor want (syndrome (length ms))) ms) (count_law want ms)))

pick_le : (b : Bool) → pick b 1 0 ≤ 1
pick_le true = omega arith
pick_le false = omega arith

pub ways_le : (want : ℕ) (l : List ℕ) → ways want l ≤ 2 ^ length l
unfolding ways
ways_le want [] = pick_le (eqb want 0)
ways_le want (s ∷ l) = omega (arith, ways_le (bit_xor want s) l, ways_le want l, pow-suc 2 (length l))

-- ---- how many match, from what a count gave
module _ (want many : ℕ) (ms syns : List ℕ) {r : ℕ} (k : back many syns ≡ syndromes_of ms) (e : r ≡ ways want (back many syns)) where
  counted : length (matching want ms) ≡ r
  counted = count_law want ms ∙ ap (ways want) (sym k) ∙ sym e

  pub none_found : r ≡ 0 → length (matching want ms) ≡ 0
  none_found h = counted ∙ h

  pub some_found : (r ≡ 0 → ⊥) → length (matching want ms) ≡ 0 → ⊥
  some_found h q = h (sym counted ∙ q)

  pub one_found : r ≡ 1 → length (matching want ms) ≡ 1
  one_found h = counted ∙ h

  pub at_most_one : r ≡ 1 → length (matching want ms) ≤ 1
  at_most_one h = omega (arith, counted)

  pub more_found : (r ≡ 0 → ⊥) → (r ≡ 1 → ⊥) → 1 < length (matching want ms)
  more_found h l = omega (arith, counted)

pub ruleset found = (tests, none_found, some_found, at_most_one, more_found)
