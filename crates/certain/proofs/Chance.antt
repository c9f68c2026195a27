-- How many overlays a correction is believed over: each subset of the marks matches over one overlay, and few marks match over as many as they have subsets.
use mathlib.Core.Path.{◌≡◌, refl, ap, ◌∙◌, sym}
use mathlib.Core.Bool.{Bool}
use mathlib.Core.List.{List, [], ◌∷◌}
use Prim.Native.Nat.{ℕ, suc, ◌+◌, ◌*◌, ◌^◌, ◌<◌, ◌≤◌}
use native.Mathlib.Omega.{arith}
use lib.Bits.{bit_xor, xor_lt, xor_comm}
use lib.Dec.{eqb}
use lib.ListN.{length}
use lib.Pow.{pow-add}
use Rattle.lists.specs.Lists.{pick, count_below, count_of, total}
use Rattle.lists.specs.Checks.{checked}
use Rattle.lists.proofs.Held.{all_map}
use Rattle.lists.proofs.Total.{total_same, count_total}
use Rattle.lists.proofs.Keys.{keyed, length_total}
use Rattle.parity_rules.specs.Messages.{bits, AreBits}
use Rattle.parity_rules.specs.Answers.{Buffers, Correction, not_corrected}
use Rattle.parity_rules.specs.Division.{remainder_of}
use Rattle.parity_rules.specs.Correction.{size_of, subsets, xor_of, matching, sought, matches_of, match_checks, flipped_by, correction}
use Rattle.parity_rules.specs.Corrected.{AtMarks}
use Rattle.parity_rules.specs.Distance.{Distance}
use Rattle.parity_rules.proofs.Bits.{bits_are}
use Rattle.parity_rules.proofs.Laws.{remainder_lt}
use Rattle.parity_rules.proofs.Sum.{sum_lt}
use Rattle.parity_rules.proofs.Match.{eqb_move}
use Rattle.parity_rules.proofs.Found.{within_are, subsets_within, subsets_many, match_count}
use Rattle.parity_rules.proofs.Judged.{sizes, ranged_in}
use Rattle.parity_rules.proofs.Outcomes.{by_matches}
use Rattle.certain.specs.Certain.{marked, InLimit, believed_over}
use Rattle.certain.proofs.Few.{not_two}

-- ---- the matches over all overlays are the subsets, whatever the marks
-- the one overlay over which a subset matches
abbrev matched_over : List ℕ → List ℕ → ℕ
matched_over msg s = bit_xor (remainder_of (bits msg)) (xor_of s)

by_overlay : (msg : List ℕ) (o : ℕ) (s : List ℕ) → eqb (xor_of s) (sought msg o) ≡ keyed (matched_over msg) o s
by_overlay msg o s =
    let r = remainder_of (bits msg) in
    ap (eqb (xor_of s)) (xor_comm r o) ∙ sym (eqb_move r (xor_of s) o)

-- the overlays are the numbers below `all`, which is 2^24: said of a number with a name, which a sum is not worked out up to
matches_in_all : (all : ℕ) → all ≡ 16777216 → (msg ms : List ℕ) → AreBits ms → total (λ o. length (matching (sought msg o) ms)) all ≡ 2 ^ size_of ms
matches_in_all all is msg ms h =
    total_same (λ o. length (matching (sought msg o) ms)) (λ o. count_of (keyed (matched_over msg) o) (subsets ms)) all
    (λ o l. match_count (sought msg o) ms (keyed (matched_over msg) o) (by_overlay msg o))
    ∙ sym
    (length_total (matched_over msg) all (subsets ms)
    (all_map (λ s. AtMarks s ms) (λ s. matched_over msg s < all)
    (λ s w. omega (arith, is, xor_lt 24 (remainder_of (bits msg)) (xor_of s) (remainder_lt msg) (sum_lt s (within_are s ms h w)))) (subsets ms)
    (subsets_within ms)))
    ∙ subsets_many ms h

-- ---- with few marks at most one subset matches over each, and that one is believed
module _ (n k : ℕ) (far : Distance (n * 8) (suc k)) (msg marks : List ℕ) (limit : ℕ) (lent : Buffers) (short : length msg ≤ n)
    (in_limit : InLimit msg marks limit lent) (few : marked marks ≤ k) where
  abbrev is_believed : ℕ → Bool
  is_believed o = eqb (correction msg marks o limit lent).number 0

  one_or_none : (l : List (List ℕ)) → ((s t : List ℕ) (r : List (List ℕ)) → l ≡ s ∷ t ∷ r → ⊥)
      → pick (eqb (checked (match_checks l) (not_corrected lent) (flipped_by msg l)).number 0) 1 0 ≡ length l
  unfolding checked
  one_or_none [] f = refl
  one_or_none (s ∷ []) f = refl
  one_or_none (s ∷ t ∷ r) f = absurd (f s t r refl)

  one_each : (o : ℕ) → o < 16777216 → pick (is_believed o) 1 0 ≡ length (matching (sought msg o) (bits marks))
  one_each o h =
      let same = (sizes (length msg) (length marks) (length lent.output) (length lent.places) in_limit.lengths).marks in
      let r = ranged_in o limit h in_limit.most in
      ap (λ (c : Correction). pick (eqb c.number 0) 1 0) (by_matches msg marks o limit lent in_limit.lengths r in_limit.few)
      ∙ one_or_none (matches_of msg marks o) (not_two n k far marks (omega (arith, same)) few (sought msg o))

  counted : (all : ℕ) → all ≡ 16777216 → count_below is_believed all ≡ 2 ^ marked marks
  counted all is =
      count_total is_believed all
      ∙ total_same (λ o. pick (is_believed o) 1 0) (λ o. length (matching (sought msg o) (bits marks))) all (λ o l. one_each o (omega arith))
      ∙ matches_in_all all is msg (bits marks) (bits_are marks)

  pub few_believed : believed_over msg marks limit lent ≡ 2 ^ marked marks
  few_believed = counted 16777216 refl

  -- one in 2^j, where marks and j are 24 together
  pub few_chance : (j : ℕ) → marked marks + j ≡ 24 → believed_over msg marks limit lent * 2 ^ j ≡ 0x1000000
  few_chance j e = ap (λ (x : ℕ). x * 2 ^ j) few_believed ∙ sym (pow-add 2 (marked marks) j) ∙ ap (λ (x : ℕ). 2 ^ x) e
