-- The matching subsets are exactly the subsets of the marked places with the XOR that is wanted.
use mathlib.Core.Path.{◌≡◌, refl, sym, ap, ap₂, ◌∙◌}
use mathlib.Core.Bool.{Bool, true}
use mathlib.Core.Logic.{inl, inr}
use mathlib.Core.List.{List, [], ◌∷◌, map}
use Prim.Native.Nat.{ℕ, zero, suc, ◌+◌, ◌^◌}
use native.Mathlib.Nat.{pow-suc}
use native.Mathlib.Omega.{arith}
use lib.Dec.{eqb, ltb}
use lib.ListN.{length, drop, get_or, replicate, length-map, length-append}
use borrow.Author.Tests.{eq-eqb, eqb-true, lt-ltb}
use Rattle.lists.specs.Lists.{count_of, filter, All, Among, Distinct}
use Rattle.lists.proofs.Each.{all_image, all_kept}
use Rattle.lists.proofs.Held.{all_append, all_of}
use Rattle.lists.proofs.Filter.{filter_length}
use Rattle.lists.proofs.Among.{among_left, among_right, among_kept, among_image, distinct_append, distinct_kept, distinct_image}
use Rattle.parity_rules.specs.Messages.{AreBits}
use Rattle.parity_rules.specs.Correction.{size_of, subsets, xor_of, matching}
use Rattle.parity_rules.specs.Corrected.{AtMarks}

-- ---- places within the marks
pub within_are : (s ms : List ℕ) → AreBits ms → AtMarks s ms → AreBits s
unfolding All
within_are [] ms b h = tt
within_are (x ∷ s) [] b h = absurd h
within_are (x ∷ s) (m ∷ ms) b h = (omega (arith, h.0, b.0), within_are s ms b.1 h.1)

pub within_length : (s ms : List ℕ) → AtMarks s ms → length s ≡ length ms
within_length [] [] h = refl
within_length [] (m ∷ ms) h = absurd h
within_length (x ∷ s) [] h = absurd h
within_length (x ∷ s) (m ∷ ms) h = ap suc (within_length s ms h.1)

-- the marks themselves, and no place
pub all_marked : (ms : List ℕ) → AtMarks ms ms
all_marked [] = tt
all_marked (m ∷ ms) = (omega arith, all_marked ms)

pub none_marked : (ms : List ℕ) → AtMarks (replicate (length ms) 0) ms
none_marked [] = tt
none_marked (m ∷ ms) = (omega arith, none_marked ms)

-- ---- every subset lies within the marks
pub subsets_within : (ms : List ℕ) → All (λ s. AtMarks s ms) (subsets ms)
unfolding All subsets
subsets_within [] = (tt, tt)
subsets_within (zero ∷ ms) = all_image (λ s. 0 ∷ s) (λ s. AtMarks s ms) (λ s. AtMarks s (0 ∷ ms)) (λ s h. (omega arith, h)) (subsets ms) (subsets_within ms)
subsets_within (suc m ∷ ms) =
    all_append (λ s. AtMarks s (suc m ∷ ms)) (map (λ s. 1 ∷ s) (subsets ms)) (map (λ s. 0 ∷ s) (subsets ms))
    (all_image (λ s. 1 ∷ s) (λ s. AtMarks s ms) (λ s. AtMarks s (suc m ∷ ms)) (λ s h. (omega arith, h)) (subsets ms) (subsets_within ms))
    (all_image (λ s. 0 ∷ s) (λ s. AtMarks s ms) (λ s. AtMarks s (suc m ∷ ms)) (λ s h. (omega arith, h)) (subsets ms) (subsets_within ms))

-- the subsets kept lie within the marks and pass the test
kept_within : (ms : List ℕ) (p : List ℕ → Bool) → All (λ u. AtMarks u ms × (p u ≡ true)) (filter p (subsets ms))
kept_within ms p = all_kept (λ u. AtMarks u ms) (λ u. AtMarks u ms × (p u ≡ true)) p (λ u e h. (h, e)) (subsets ms) (subsets_within ms)

-- a match lies within the marks and has the XOR wanted
pub match_is : (want : ℕ) (ms s : List ℕ) (r : List (List ℕ)) → matching want ms ≡ s ∷ r → AtMarks s ms × (xor_of s ≡ want)
unfolding All matching
match_is want ms s r e =
    let a = rw e at (kept_within ms (λ u. eqb (xor_of u) want)) in
    (a.0.0, eqb-true (xor_of s) want a.0.1)

-- ---- every list within the marks is a subset
subsets_has : (t ms : List ℕ) → AreBits ms → AtMarks t ms → Among t (subsets ms)
unfolding All subsets
subsets_has [] [] b h = inl refl
subsets_has [] (m ∷ ms) b h = absurd h
subsets_has (x ∷ t) [] b h = absurd h
subsets_has (zero ∷ t) (zero ∷ ms) b h = among_image (λ s. 0 ∷ s) t (subsets ms) (subsets_has t ms b.1 h.1)
subsets_has (suc x ∷ t) (zero ∷ ms) b h = absurd (omega (arith, h.0))
subsets_has (zero ∷ t) (suc m ∷ ms) b h =
    among_right (0 ∷ t) (map (λ s. 1 ∷ s) (subsets ms)) (map (λ s. 0 ∷ s) (subsets ms))
    (among_image (λ s. 0 ∷ s) t (subsets ms) (subsets_has t ms b.1 h.1))
subsets_has (suc zero ∷ t) (suc m ∷ ms) b h =
    among_left (1 ∷ t) (map (λ s. 1 ∷ s) (subsets ms)) (map (λ s. 0 ∷ s) (subsets ms))
    (among_image (λ s. 1 ∷ s) t (subsets ms) (subsets_has t ms b.1 h.1))
subsets_has (suc (suc x) ∷ t) (suc m ∷ ms) b h = absurd (omega (arith, h.0, b.0))

-- where one subset matches, every list within the marks with that XOR is it
only_one : (s t : List ℕ) → Among t (s ∷ []) → t ≡ s
only_one s t (inl e) = e
only_one s t (inr h) = absurd h

pub match_only : (want : ℕ) (ms s t : List ℕ) → AreBits ms → matching want ms ≡ s ∷ [] → AtMarks t ms → xor_of t ≡ want → t ≡ s
unfolding matching
match_only want ms s t b e h w =
    only_one s t (rw e at (among_kept (λ u. eqb (xor_of u) want) t (subsets ms) (eq-eqb (xor_of t) want w) (subsets_has t ms b h)))

pub match_none : (want : ℕ) (ms t : List ℕ) → AreBits ms → matching want ms ≡ [] → AtMarks t ms → xor_of t ≡ want → ⊥
unfolding matching
match_none want ms t b e h w = rw e at (among_kept (λ u. eqb (xor_of u) want) t (subsets ms) (eq-eqb (xor_of t) want w) (subsets_has t ms b h))

-- ---- no subset stands twice
longer : (x : ℕ) (r : List (List ℕ)) → Distinct r → Distinct (map (λ s. x ∷ s) r)
longer x r d = distinct_image (λ s. x ∷ s) (λ s. Unit {0}) (λ s t p q e. ap (drop 1) e) r (all_of _ (λ s. tt) r) d

-- a subset with the first place and one without it differ
cross : (q r : List (List ℕ)) → All (λ s. All (λ t. s ≡ t → ⊥) (map (λ s. 0 ∷ s) r)) (map (λ s. 1 ∷ s) q)
unfolding All
cross [] r = tt
cross (s ∷ q) r = (go r, cross q r)
  where
    go : (r : List (List ℕ)) → All (λ t. 1 ∷ s ≡ t → ⊥) (map (λ s. 0 ∷ s) r)
    go [] = tt
    go (t ∷ r) = (λ e. omega (arith, ap (λ (l : List ℕ). get_or l 0 0) e), go r)

pub subsets_distinct : (ms : List ℕ) → Distinct (subsets ms)
unfolding All subsets
subsets_distinct [] = (tt, tt)
subsets_distinct (zero ∷ ms) = longer 0 (subsets ms) (subsets_distinct ms)
subsets_distinct (suc m ∷ ms) =
    distinct_append (map (λ s. 1 ∷ s) (subsets ms)) (map (λ s. 0 ∷ s) (subsets ms)) (longer 1 (subsets ms) (subsets_distinct ms))
    (longer 0 (subsets ms) (subsets_distinct ms)) (cross (subsets ms) (subsets ms))

-- ---- m marks have 2^m subsets
pub subsets_many : (ms : List ℕ) → AreBits ms → length (subsets ms) ≡ 2 ^ size_of ms
unfolding All subsets size_of
subsets_many [] h = refl
subsets_many (zero ∷ ms) h = length-map (subsets ms) (λ s. 0 ∷ s) ∙ subsets_many ms h.1 ∙ ap (λ (k : ℕ). 2 ^ k) (omega arith)
subsets_many (suc zero ∷ ms) h =
    let e : 1 + size_of ms ≡ suc (size_of ms) = omega arith in
    length-append (map (λ s. 1 ∷ s) (subsets ms)) (map (λ s. 0 ∷ s) (subsets ms))
    ∙ ap₂ ◌+◌ (length-map (subsets ms) (λ s. 1 ∷ s)) (length-map (subsets ms) (λ s. 0 ∷ s))
    ∙ rw e (omega (arith, subsets_many ms h.1, pow-suc 2 (size_of ms)))
subsets_many (suc (suc m) ∷ ms) h = absurd (omega (arith, h.0))

-- as many match as pass a test that says the same
pub match_count : (want : ℕ) (ms : List ℕ) (q : List ℕ → Bool) → ((s : List ℕ) → eqb (xor_of s) want ≡ q s)
    → length (matching want ms) ≡ count_of q (subsets ms)
unfolding matching
match_count want ms q h = filter_length (λ s. eqb (xor_of s) want) q h (subsets ms)

-- where two subsets match they are two
pub match_two : (want : ℕ) (ms s t : List ℕ) (r : List (List ℕ)) → matching want ms ≡ s ∷ t ∷ r
    → AtMarks s ms × (xor_of s ≡ want) × AtMarks t ms × (xor_of t ≡ want) × (s ≡ t → ⊥)
unfolding All matching
match_two want ms s t r e =
    let a = rw e at (kept_within ms (λ u. eqb (xor_of u) want)) in
    let d = rw e at (distinct_kept (λ u. eqb (xor_of u) want) (subsets ms) (subsets_distinct ms)) in
    (a.0.0, eqb-true (xor_of s) want a.0.1, a.1.0.0, eqb-true (xor_of t) want a.1.0.1, d.0.0)

-- and where two lists within the marks have that XOR, two subsets match
more_than_one : (s t : List ℕ) (l : List (List ℕ)) → Among s l → Among t l → (s ≡ t → ⊥) → ltb 1 (length l) ≡ true
more_than_one s t [] a b n = absurd a
more_than_one s t (u ∷ []) a b n = absurd (n (only_one u s a ∙ sym (only_one u t b)))
more_than_one s t (u ∷ v ∷ l) a b n = lt-ltb 1 (length (u ∷ v ∷ l)) (omega arith)

pub match_both : (want : ℕ) (ms s t : List ℕ) → AreBits ms → AtMarks s ms → AtMarks t ms → xor_of s ≡ want → xor_of t ≡ want → (s ≡ t → ⊥)
    → ltb 1 (length (matching want ms)) ≡ true
unfolding matching
match_both want ms s t b hs ht es et n =
    let found : (u : List ℕ) → AtMarks u ms → xor_of u ≡ want → Among u (filter (λ u. eqb (xor_of u) want) (subsets ms)) =
    λ u h e. among_kept (λ u. eqb (xor_of u) want) u (subsets ms) (eq-eqb (xor_of u) want e) (subsets_has u ms b h) in
    more_than_one s t (filter (λ u. eqb (xor_of u) want) (subsets ms)) (found s hs es) (found t ht et) n
