-- The Hamming distance: no one to five places of a message have the XOR of syndromes zero. An odd number of places never has it. An even number is ruled
-- out by a test that computes: the first place is moved up to the highest power, and half of the rest are looked up among the sums of the other half.
use mathlib.Core.Path.{◌≡◌, refl, sym, ap, ◌∙◌}
use mathlib.Core.Bool.{Bool, true, ◌&&◌}
use mathlib.Core.List.{List, [], ◌∷◌, ◌++◌}
use mathlib.Core.Logic.{inl, ⊎_elim}
use Prim.Native.Nat.{ℕ, zero, suc, ◌+◌, ◌-◌, ◌/◌, ◌<◌, ◌≤◌}
use native.Mathlib.Decide.{le_ind}
use native.Mathlib.Omega.{arith}
use lib.Bits.{bit_xor, xor_comm, xor_zero_r}
use lib.ListN.{length, replicate, length-append, length-replicate}
use Rattle.lists.specs.Lists.{All, Among}
use Rattle.lists.proofs.Among.{among_left, among_right, among_either}
use Rattle.lists.proofs.Held.{all_append}
use Rattle.lists.proofs.Tests.{and_true}
use Rattle.lists.proofs.Xor.{xor_assoc, xor_move}
use Rattle.parity_rules.specs.Messages.{AreBits}
use Rattle.parity_rules.specs.Division.{shift_in, divide, remainder_of, syndrome}
use Rattle.parity_rules.specs.Correction.{size_of, xor_of}
use Rattle.parity_rules.specs.Distance.{Distance}
use Rattle.parity_rules.proofs.Laws.{divide_append}
use Rattle.parity_rules.proofs.Sum.{zeros_are, size_zeros, sum_is}
use Rattle.parity_rules.proofs.Even.{even_size}
use Rattle.parity_rules.proofs.Planted.{Tree, put, lacks, holds, missing, plant, planted}

-- the syndromes of n places, the first place's at the front
abbrev powers : ℕ → List ℕ
powers zero = []
powers (suc n) = syndrome n ∷ powers n

-- p with the XOR of any k of the numbers
abbrev sums : ℕ → ℕ → List ℕ → List ℕ
sums zero p xs = p ∷ []
sums (suc k) p [] = []
sums (suc k) p (x ∷ xs) = sums k (bit_xor x p) xs ++ sums (suc k) p xs

sums_more : (k p x y : ℕ) (xs : List ℕ) → Among y (sums k p xs) → Among y (sums k p (x ∷ xs))
sums_more zero p x y xs h = h
sums_more (suc k) p x y xs h = among_right y (sums k (bit_xor x p) xs) (sums (suc k) p xs) h

-- ---- j + k places are j and k
-- a with j of the places of d, and b with the k others
record Parted (d : List ℕ) (j k a b : ℕ) : Type 0 where
  few : ℕ
  others : ℕ
  few_in : Among few (sums j a (powers (length d)))
  others_in : Among others (sums k b (powers (length d)))
  together : bit_xor few others ≡ bit_xor (bit_xor a b) (xor_of d)

xor_first : (x a b s : ℕ) → bit_xor (bit_xor (bit_xor x a) b) s ≡ bit_xor (bit_xor a b) (bit_xor x s)
xor_first x a b s = ap (λ (n : ℕ). bit_xor n s) (xor_assoc x a b ∙ xor_comm x (bit_xor a b)) ∙ xor_assoc (bit_xor a b) x s

xor_second : (x a b s : ℕ) → bit_xor (bit_xor a (bit_xor x b)) s ≡ bit_xor (bit_xor a b) (bit_xor x s)
xor_second x a b s = ap (λ (n : ℕ). bit_xor n s) (ap (bit_xor a) (xor_comm x b) ∙ sym (xor_assoc a b x)) ∙ xor_assoc (bit_xor a b) x s

parted : (d : List ℕ) → AreBits d → (j k a b : ℕ) → size_of d ≡ j + k → Parted d j k a b
unfolding All size_of xor_of
parted [] h zero zero a b w = record { few = a; others = b; few_in = inl refl; others_in = inl refl; together = sym (xor_zero_r (bit_xor a b)) }
parted [] h zero (suc k) a b w = absurd (omega arith)
parted [] h (suc j) k a b w = absurd (omega arith)
parted (zero ∷ d) h j k a b w =
    let r = parted d h.1 j k a b (omega arith) in
    let more : (i p y : ℕ) → Among y (sums i p (powers (length d))) → Among y (sums i p (powers (suc (length d)))) =
    λ i p y. sums_more i p (syndrome (length d)) y (powers (length d)) in
    record { few = r.few; others = r.others; few_in = more j a _ r.few_in; others_in = more k b _ r.others_in; together = r.together }
parted (suc zero ∷ d) h zero zero a b w = absurd (omega arith)
parted (suc zero ∷ d) h zero (suc k) a b w =
    let x = syndrome (length d) in
    let r = parted d h.1 zero k a (bit_xor x b) (omega arith) in
    record {
      few = r.few;
      others = r.others;
      few_in = r.few_in;
      others_in = among_left r.others (sums k (bit_xor x b) (powers (length d))) (sums (suc k) b (powers (length d))) r.others_in;
      together = r.together ∙ xor_second x a b (xor_of d);
    }
parted (suc zero ∷ d) h (suc j) k a b w =
    let x = syndrome (length d) in
    let r = parted d h.1 j k (bit_xor x a) b (omega arith) in
    record {
      few = r.few;
      others = r.others;
      few_in = among_left r.few (sums j (bit_xor x a) (powers (length d))) (sums (suc j) a (powers (length d))) r.few_in;
      others_in = sums_more k b x r.others (powers (length d)) r.others_in;
      together = r.together ∙ xor_first x a b (xor_of d);
    }
parted (suc (suc c) ∷ d) h j k a b w = absurd (omega (arith, h.0))

-- ---- the test: no k + 1 of the numbers, with a, have an XOR in the tree
unfoldable pub clear : ℕ → ℕ → List ℕ → Tree → Bool
clear zero a [] t = true
clear zero a (x ∷ xs) t = lacks 24 x a t && clear zero a xs t
clear (suc k) a [] t = true
clear (suc k) a (x ∷ xs) t = clear k (bit_xor x a) xs t && clear (suc k) a xs t

clear_of : (k a : ℕ) (xs : List ℕ) (t : Tree) → clear k a xs t ≡ true → (q : ℕ) → Among q (sums (suc k) a xs) → holds 24 q t ≡ true → ⊥
unfolding clear
clear_of zero a [] t c q h e = h
clear_of zero a (x ∷ xs) t c q h e =
    let b = and_true (lacks 24 x a t) (clear zero a xs t) c in
    ⊎_elim (λ i. missing 24 x a t b.0 (ap (λ (y : ℕ). holds 24 y t) (sym i) ∙ e)) (λ i. clear_of zero a xs t b.1 q i e) h
clear_of (suc k) a [] t c q h e = h
clear_of (suc k) a (x ∷ xs) t c q h e =
    let b = and_true (clear k (bit_xor x a) xs t) (clear (suc k) a xs t) c in
    ⊎_elim (λ i. clear_of k (bit_xor x a) xs t b.0 q i e) (λ i. clear_of (suc k) a xs t b.1 q i e)
    (among_either q (sums (suc k) (bit_xor x a) xs) (sums (suc (suc k)) a xs) h)

-- x with any k of the numbers is no sum of k + 1 of them; and so for fewer than k
abbrev apart_at : ℕ → List ℕ → ℕ → Bool
apart_at x xs k = clear k 0 xs (plant (sums k x xs))

abbrev pub apart : ℕ → List ℕ → ℕ → Bool
apart x xs zero = true
apart x xs (suc k) = apart_at x xs k && apart x xs k

apart_at_is : (x : ℕ) (xs : List ℕ) (k j : ℕ) → j < k → apart x xs k ≡ true → apart_at x xs j ≡ true
apart_at_is x xs k j h =
    le_ind (λ (k : ℕ). apart x xs k ≡ true → apart_at x xs j ≡ true) (λ t. (and_true (apart_at x xs j) (apart x xs j) t).0)
    (λ i l ih t. ih (and_true (apart_at x xs i) (apart x xs i) t).1) k h

-- ---- 2 (k + 1) places, the first of them x^n
abbrev far_at : ℕ → ℕ → Bool
far_at n k = apart_at (syndrome n) (powers n) k

topmost : (k : ℕ) (d : List ℕ) → AreBits d → far_at (length d) k ≡ true → size_of d ≡ k + suc k → xor_of (1 ∷ d) ≡ 0 → ⊥
unfolding xor_of
topmost k d h t w e =
    let x = syndrome (length d) in
    let r = parted d h k (suc k) x 0 w in
    let z : bit_xor r.few r.others ≡ 0 = r.together ∙ ap (λ (y : ℕ). bit_xor y (xor_of d)) (xor_zero_r x) ∙ e in
    let q : r.few ≡ r.others = xor_move r.few r.others 0 z in
    let s = sums k x (powers (length d)) in
    clear_of k 0 (powers (length d)) (plant s) t r.others r.others_in
    (ap (λ (y : ℕ). holds 24 y (plant s)) (sym q) ∙ planted r.few s r.few_in)

-- ---- zeros at the end: a sum of zero moved up by n powers is one of zero
zeros_size : (s : List ℕ) (n : ℕ) → size_of (s ++ replicate n 0) ≡ size_of s
unfolding size_of
zeros_size [] n = size_zeros n
zeros_size (x ∷ s) n = ap (λ (k : ℕ). x + k) (zeros_size s n)

zeros_divide : (n : ℕ) → divide 0 (replicate n 0) ≡ 0
unfolding divide shift_in
zeros_divide zero = refl
zeros_divide (suc n) = zeros_divide n

moved_are : (s : List ℕ) (n : ℕ) → AreBits s → AreBits (s ++ replicate n 0)
moved_are s n h = all_append (λ x. x < 2) s (replicate n 0) h (zeros_are n)

moved : (s : List ℕ) (n : ℕ) → AreBits s → xor_of s ≡ 0 → xor_of (s ++ replicate n 0) ≡ 0
unfolding remainder_of
moved s n h e =
    sum_is (s ++ replicate n 0) (moved_are s n h) ∙ divide_append 0 s (replicate n 0)
    ∙ ap (λ (r : ℕ). divide r (replicate n 0)) (sym (sum_is s h) ∙ e) ∙ zeros_divide n

-- ---- 2 (k + 1) places of at most n + 1: those before the first are left out, and the first is moved up to x^n
clash : (n k : ℕ) → far_at n k ≡ true → (d : List ℕ) → AreBits d → length d ≤ suc n → size_of d ≡ suc k + suc k → xor_of d ≡ 0 → ⊥
unfolding All size_of xor_of
clash n k t [] h l w e = omega arith
clash n k t (zero ∷ d) h l w e = clash n k t d h.1 (omega arith) (omega arith) e
clash n k t (suc zero ∷ d) h l w e =
    let m = n - length d in
    let u = d ++ replicate m 0 in
    let lu : length u ≡ n = length-append d (replicate m 0) ∙ ap (λ (i : ℕ). length d + i) (length-replicate m 0) ∙ omega arith in
    topmost k u (moved_are d m h.1) (ap (λ (i : ℕ). far_at i k) lu ∙ t) (omega (arith, zeros_size d m)) (moved (1 ∷ d) m (omega arith, h.1) e)
clash n k t (suc (suc c) ∷ d) h l w e = omega (arith, h.0)

-- an odd number of places never has the XOR zero, so 2 k + 1 places do not where 2 k do not
far : (n k : ℕ) → apart (syndrome n) (powers n) k ≡ true → Distance (suc n) (k + k + 2)
far n k t d h l w e = go (size_of d / 2) refl
  where
    go : (j : ℕ) → size_of d / 2 ≡ j → size_of d ≡ 0
    go zero q = omega (arith, even_size d h e)
    go (suc j) q =
        let two = even_size d h e in
        absurd (clash n j (apart_at_is (syndrome n) (powers n) k j (omega (arith, two)) t) d h l (omega (arith, two)) e)

-- ---- the powers, each from the one below it
unfoldable pub climb : ℕ → ℕ → List ℕ → List ℕ
climb zero s xs = xs
climb (suc k) s xs = climb k (shift_in s 0) (s ∷ xs)

next_zeros : (m r : ℕ) → divide r (replicate (suc m) 0) ≡ shift_in (divide r (replicate m 0)) 0
unfolding divide
next_zeros zero r = refl
next_zeros (suc m) r = next_zeros m (shift_in r 0)

next : (m : ℕ) → shift_in (syndrome m) 0 ≡ syndrome (suc m)
unfolding syndrome remainder_of divide
next m = sym (next_zeros m (shift_in 0 1))

climbed : (k m : ℕ) → climb k (syndrome m) (powers m) ≡ powers (k + m)
unfolding climb
climbed zero m = let e : m ≡ 0 + m = omega arith in ap powers e
climbed (suc k) m =
    let e : k + suc m ≡ suc k + m = omega arith in
    ap (λ (s : ℕ). climb k s (powers (suc m))) (next m) ∙ climbed k (suc m) ∙ ap powers e

-- the test for n + 1 bits: no one to 2 k + 1 of them have the XOR zero
pub by_test : (n k : ℕ) → apart (syndrome n) (climb n (syndrome 0) []) k ≡ true → Distance (suc n) (k + k + 2)
by_test n k t =
    let e : n + 0 ≡ n = omega arith in
    far n k (ap (λ (xs : List ℕ). apart (syndrome n) xs k) (sym (climbed n 0 ∙ ap powers e)) ∙ t)

long_test : apart (syndrome 111) (climb 111 (syndrome 0) []) 2 ≡ true
unfolding syndrome remainder_of divide shift_in put lacks plant clear climb
long_test = refl

-- no one to five of at most 112 places have the XOR zero
pub distance : Distance 112 6
distance = by_test 111 2 long_test
