-- The syndromes of the marked places as the code keeps them: from the last marked place to the first.
use mathlib.Core.Path.{◌≡◌, refl, sym, ap, ap₂, ◌∙◌}
use mathlib.Core.List.{List, [], ◌∷◌}
use Prim.Native.Nat.{ℕ, zero, suc, ◌+◌, ◌-◌, ◌<◌, ◌≤◌}
use native.Mathlib.Nat.{le_trans}
use native.Mathlib.Omega.{arith}
use lib.Bits.{bit_xor}
use lib.ListN.{length, drop, get_or, set, length-drop, drop_of_length-le}
use lib.Pow.{pow_mono}
use lib.Seq.{drop-cons, get_or-set_same, get_or-set_other}
use Rattle.parity_rules.specs.Division.{syndrome}
use Rattle.parity_rules.specs.Correction.{size_of}
use Rattle.parity_rules.specs.Steps.{syndromes_of, with_if, back, ways, Noted, Gathered}
use Rattle.parity_rules.proofs.Match.{ways_le}

-- ---- the recursion on the first k syndromes, from the k-th down
back_length : (k : ℕ) (l : List ℕ) → length (back k l) ≡ k
unfolding back
back_length zero l = refl
back_length (suc k) l = ap suc (back_length k l)

pub ways_end : (want k : ℕ) (l : List ℕ) → k ≡ 0 → ways want (back k l) ≡ ways want []
unfolding back
ways_end want k l e = rw e

pub ways_next : (want k : ℕ) (l : List ℕ) → (k ≡ 0 → ⊥)
    → ways want (back k l) ≡ ways (bit_xor want (get_or l (k - 1) 0)) (back (k - 1) l) + ways want (back (k - 1) l)
unfolding ways back
ways_next want zero l h = absurd (h refl)
ways_next want (suc k) l h = let p : suc k - 1 ≡ k = omega arith in rw p

pub ways_small : (want k : ℕ) (l : List ℕ) → k ≤ 12 → ways want (back k l) ≤ 4096
ways_small want k l h = le_trans (ways_le want (back k l)) (pow_mono {j = 12} (rw (back_length k l) h))

-- ---- one place more, before those that are noted
syndromes_cons : (b : ℕ) (ms : List ℕ) → syndromes_of (b ∷ ms) ≡ with_if b (syndrome (length ms)) (syndromes_of ms)
unfolding syndromes_of
syndromes_cons zero ms = refl
syndromes_cons (suc b) ms = refl

-- the place with k places after it
after : (ms : List ℕ) (n k : ℕ) → length ms ≡ n → k < n → (drop (n - (k + 1)) ms ≡ get_or ms (n - 1 - k) 0 ∷ drop (n - k) ms) × (length (drop (n - k) ms) ≡ k)
after ms n k e h =
    let i : n - (k + 1) ≡ n - 1 - k = omega arith in
    let j : n - k ≡ suc (n - 1 - k) = omega arith in
    (rw (i, j) (drop-cons ms (n - 1 - k) 0 (omega arith)), length-drop (n - k) ms ∙ omega arith)

pub gathered_none : (ms syns : List ℕ) (n : ℕ) → length ms ≡ n → Gathered (drop (n - 0) ms) 0 syns
unfolding size_of syndromes_of back
gathered_none ms syns n e = rw (drop_of_length-le ms {i = n - 0} (omega arith)) (record { counted = refl; kept = λ l. refl })

pub gathered_next : (ms syns syns' : List ℕ) (n k many many' b : ℕ) → length ms ≡ n → k < n → b ≡ get_or ms (n - 1 - k) 0
    → Gathered (drop (n - k) ms) many syns → Noted many syns b (syndrome k) many' syns' → Gathered (drop (n - (k + 1)) ms) many' syns'
unfolding size_of
gathered_next ms syns syns' n k many many' b e h eb g w =
    let a = after ms n k e h in
    rw (a.0, ← eb)
    (record {
      counted = omega (arith, w.counted, g.counted);
      kept =
          λ l.
          w.kept l ∙ ap (with_if b (syndrome k)) (g.kept (omega (arith, w.counted)))
          ∙ sym (syndromes_cons b (drop (n - k) ms) ∙ ap (λ (x : ℕ). with_if b (syndrome x) (syndromes_of (drop (n - k) ms))) a.1);
    })

pub gathered_all : (ms syns : List ℕ) (n k many : ℕ) → n ≤ k → Gathered (drop (n - k) ms) many syns → Gathered ms many syns
gathered_all ms syns n k many h g = let z : n - k ≡ 0 = omega arith in rw z at g

-- all are kept where there are at most as many as a limit of 12
module _ (ms syns : List ℕ) (many limit : ℕ) (g : Gathered ms many syns) (h : many ≤ limit) (l : limit ≤ 12) where
  pub few_marks : many ≤ 12
  few_marks = omega arith

  pub kept_few : back many syns ≡ syndromes_of ms
  kept_few = g.kept few_marks

below : (n k v : ℕ) (l : List ℕ) → n ≤ k → back n (set l k v) ≡ back n l
unfolding back
below zero k v l h = refl
below (suc n) k v l h = ap₂ (λ (x : ℕ) (r : List ℕ). x ∷ r) (get_or-set_other l k n v 0 (λ e. omega arith)) (below n k v l (omega arith))

pub back_set : (k v : ℕ) (l : List ℕ) → k < length l → back (suc k) (set l k v) ≡ v ∷ back k l
unfolding back
back_set k v l h = ap₂ (λ (x : ℕ) (r : List ℕ). x ∷ r) (get_or-set_same l k v 0 h) (below k k v l (omega arith))
