-- The one matching subset, place by place: whether a place is in it, and what is left after that place.
use mathlib.Core.Path.{◌≡◌, refl, sym, ap, ◌∙◌, subst}
use mathlib.Core.List.{List, [], ◌∷◌, ◌++◌, map}
use Prim.Native.Nat.{ℕ, zero, suc, ◌+◌, ◌-◌, ◌<◌}
use native.Mathlib.Numerals.{add-one}
use native.Mathlib.Omega.{arith}
use lib.Bits.{bit_xor}
use lib.ListN.{length, drop, get_or, length-map}
use lib.Seq.{drop-cons}
use Rattle.parity_rules.specs.Division.{syndrome}
use Rattle.parity_rules.specs.Correction.{matching, first}
use Rattle.parity_rules.specs.Steps.{syndromes_of, back, ways, Left, Chosen}
use Rattle.parity_rules.proofs.Match.{matching_plain, matching_mark, count_law}

-- an unmarked place
only_plain : (want : ℕ) (ms s : List ℕ) → matching want (0 ∷ ms) ≡ s ∷ [] → (t : List ℕ) × (s ≡ 0 ∷ t) × (matching want ms ≡ t ∷ [])
only_plain want ms s e = go (matching want ms) refl
  where
    go : (r : List (List ℕ)) → matching want ms ≡ r → (t : List ℕ) × (s ≡ 0 ∷ t) × (matching want ms ≡ t ∷ [])
    go [] q = let z : ◌≡◌ {A = ℕ} 0 1 = simp q at (ap length (sym (matching_plain want ms) ∙ e)) in absurd (omega arith)
    go (t ∷ []) q = (t, cc (matching_plain want ms), q)
    go (t ∷ u ∷ r) q = absurd (omega (arith, simp (q, length-map) at (ap length (sym (matching_plain want ms) ∙ e))))

-- a marked place: the match takes it, or not
join_one : (a b : List (List ℕ)) (s : List ℕ) → map (λ u. 1 ∷ u) a ++ map (λ u. 0 ∷ u) b ≡ s ∷ []
    → (length a ≡ 1 → (s ≡ 1 ∷ drop 1 s) × (a ≡ drop 1 s ∷ [])) × ((length a ≡ 1 → ⊥) → (s ≡ 0 ∷ drop 1 s) × (b ≡ drop 1 s ∷ []))
join_one [] [] s e = absurd (omega (arith, ap length e))
join_one [] (t ∷ []) s e = (λ z. absurd (omega arith), λ z. (cc, cc))
join_one [] (t ∷ u ∷ b) s e = absurd (omega (arith, ap length e))
join_one (t ∷ []) [] s e = (λ z. (cc, cc), λ z. absurd (z refl))
join_one (t ∷ []) (u ∷ b) s e = absurd (omega (arith, ap length e))
join_one (t ∷ u ∷ a) b s e = absurd (omega (arith, ap length e))

-- ---- the steps of a choice
uncons : (l : List ℕ) (k x : ℕ) (r : List ℕ) → back k l ≡ x ∷ r → (k ≡ 0 → ⊥) × (get_or l (k - 1) 0 ≡ x) × (back (k - 1) l ≡ r)
unfolding back
uncons l zero x r e = absurd (omega (arith, ap length e))
uncons l (suc k) x r e = let p : suc k - 1 ≡ k = omega arith in (λ z. omega arith, rw p (cc), rw p (cc))

module _ (ms syns : List ℕ) (i k want : ℕ) (s : List ℕ) (h : i < length ms) (l : Left ms syns i k want s) where
  here : drop i ms ≡ get_or ms i 0 ∷ drop (i + 1) ms
  here = rw (add-one i) (drop-cons ms i 0 h)

  pub plain_on : get_or ms i 0 ≡ 0 → Chosen ms syns i want s 0 k want
  unfolding syndromes_of
  plain_on z =
      let d : drop i ms ≡ 0 ∷ drop (i + 1) ms = rw (← z) here in
      let o = only_plain want (drop (i + 1) ms) s (ap (matching want) (sym d) ∙ l.only) in
      let q : drop 1 s ≡ o.0 = ap (drop 1) o.1 in
      record { small = omega arith; head = cc (o.1, q); left = record { few = l.few; only = cc (o.2, q); rest = l.rest ∙ ap syndromes_of d } }

  -- the marked place's syndrome is the k-th
  pub marked : (get_or ms i 0 ≡ 0 → ⊥) → (m : ℕ) × (drop i ms ≡ suc m ∷ drop (i + 1) ms) × (k ≡ 0 → ⊥)
      × (get_or syns (k - 1) 0 ≡ syndrome (length (drop (i + 1) ms))) × (back (k - 1) syns ≡ syndromes_of (drop (i + 1) ms))
  unfolding syndromes_of
  marked z = go (get_or ms i 0) refl
    where
      go : (b : ℕ) → get_or ms i 0 ≡ b → (m : ℕ) × (drop i ms ≡ suc m ∷ drop (i + 1) ms) × (k ≡ 0 → ⊥)
          × (get_or syns (k - 1) 0 ≡ syndrome (length (drop (i + 1) ms))) × (back (k - 1) syns ≡ syndromes_of (drop (i + 1) ms))
      go zero e = absurd (z e)
      go (suc m) e =
          let d : drop i ms ≡ suc m ∷ drop (i + 1) ms = rw (← e) here in
          let u = uncons syns k (syndrome (length (drop (i + 1) ms))) (syndromes_of (drop (i + 1) ms)) (l.rest ∙ ap syndromes_of d) in
          (m, d, u.0, u.1, u.2)

  -- how the matches from i on come from those after i, with the k-th syndrome
  module _ (z : get_or ms i 0 ≡ 0 → ⊥) where
    split : map (λ u. 1 ∷ u) (matching (bit_xor want (get_or syns (k - 1) 0)) (drop (i + 1) ms)) ++ map (λ u. 0 ∷ u) (matching want (drop (i + 1) ms)) ≡ s ∷ []
    split =
        let m = marked z in
        ap (λ (n : ℕ). map (λ u. 1 ∷ u) (matching (bit_xor want n) (drop (i + 1) ms)) ++ map (λ u. 0 ∷ u) (matching want (drop (i + 1) ms))) m.3
        ∙ sym (matching_mark want m.0 (drop (i + 1) ms)) ∙ ap (matching want) (sym m.1) ∙ l.only

    -- how many match with the place taken
    counted : (w : ℕ) → length (matching w (drop (i + 1) ms)) ≡ ways w (back (k - 1) syns)
    counted w = count_law w (drop (i + 1) ms) ∙ ap (ways w) (sym (marked z).4)

    pub mark_take : ways (bit_xor want (get_or syns (k - 1) 0)) (back (k - 1) syns) ≡ 1
        → Chosen ms syns i want s 1 (k - 1) (bit_xor want (get_or syns (k - 1) 0))
    mark_take e =
        let j = (join_one (matching (bit_xor want (get_or syns (k - 1) 0)) (drop (i + 1) ms)) (matching want (drop (i + 1) ms)) s split).0 (counted _ ∙ e) in
        record { small = omega arith; head = j.0; left = record { few = omega (arith, l.few); only = j.1; rest = (marked z).4 } }

    pub mark_leave : (ways (bit_xor want (get_or syns (k - 1) 0)) (back (k - 1) syns) ≡ 1 → ⊥) → Chosen ms syns i want s 0 (k - 1) want
    mark_leave e =
        let j = (join_one (matching (bit_xor want (get_or syns (k - 1) 0)) (drop (i + 1) ms)) (matching want (drop (i + 1) ms)) s split).1
        (λ q. e (sym (counted _) ∙ q)) in
        record { small = omega arith; head = j.0; left = record { few = omega (arith, l.few); only = j.1; rest = (marked z).4 } }

-- the one match is the first of the matches
pub first_is : (ms syns : List ℕ) (i k want : ℕ) (s : List ℕ) → Left ms syns i k want s → first (matching want (drop i ms)) ≡ s
first_is ms syns i k want s l = ap first l.only

pub left_first : (ms syns : List ℕ) (i k want : ℕ) (s : List ℕ) → Left ms syns i k want s → Left ms syns i k want (first (matching want (drop i ms)))
left_first ms syns i k want s l = subst (Left ms syns i k want) (sym (first_is ms syns i k want s l)) l
