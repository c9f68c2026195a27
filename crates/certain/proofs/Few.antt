-- Fewer marks than the distance: messages are apart, no two subsets match, and where the frame sent is among the messages that fit, the correction is it.
use mathlib.Core.Path.{◌≡◌, refl, sym, ap, ◌∙◌, subst}
use mathlib.Core.Bool.{true}
use mathlib.Core.List.{List, [], ◌∷◌, map}
use Prim.Native.Nat.{ℕ, suc, ◌*◌, ◌^◌, ◌<◌, ◌≤◌}
use native.Mathlib.Omega.{arith}
use lib.ListN.{length}
use Rattle.lists.specs.Lists.{Distinct}
use Rattle.lists.specs.Checks.{checked}
use Rattle.lists.proofs.Among.{distinct_image}
use Rattle.parity_rules.specs.Messages.{bits, xor_bits, differing, AreBytes}
use Rattle.parity_rules.specs.Answers.{Buffers, buffers, Correction, not_corrected}
use Rattle.parity_rules.specs.Division.{remainder_of}
use Rattle.parity_rules.specs.Correction.{size_of, subsets, xor_of, matching, sought, matches_of, mark_buffer, match_checks, flipped_by, ranged, correction}
use Rattle.parity_rules.specs.Corrected.{AtMarks, Fitting}
use Rattle.parity_rules.specs.Distance.{Distance}
use Rattle.parity_rules.proofs.Bits.{bits_length, bits_are}
use Rattle.parity_rules.proofs.Sum.{xor_are}
use Rattle.parity_rules.proofs.Laws.{remainder_lt}
use Rattle.parity_rules.proofs.Flipped.{flipped_back}
use Rattle.parity_rules.proofs.Found.{within_are, within_length, subsets_within, subsets_distinct, subsets_many, match_only, match_none, match_two}
use Rattle.parity_rules.proofs.Judged.{sizes, ranged_in}
use Rattle.parity_rules.proofs.Outcomes.{in_doubt, by_matches, matched}
use Rattle.parity_rules.proofs.Differing.{same_bits, differing_length, differing_most, differing_none, bits_alike, overlay_none, same_message}
use Rattle.certain.specs.Certain.{marked, InLimit, sent_back}

module _ (n k : ℕ) (far : Distance (n * 8) (suc k)) where
  -- ---- two messages of one overlay
  pub few_apart : (m o : List ℕ) → AreBytes m → AreBytes o → length m ≤ n → length o ≡ length m → remainder_of (bits m) ≡ remainder_of (bits o)
      → size_of (differing m o) ≤ k → m ≡ o
  few_apart m o hm ho l same e w =
      same_message m o same hm ho
      (far (differing m o) (xor_are (bits m) (bits o) (bits_are m) (bits_are o))
      (omega (arith, differing_length (bits m) (bits o) (bits_alike m o same), bits_length m)) (omega arith) (overlay_none m o same e))

  -- ---- subsets of few marks
  module _ (marks : List ℕ) (long : length marks ≤ n) (few : marked marks ≤ k) where
    same_xor : (s t : List ℕ) → AtMarks s (bits marks) → AtMarks t (bits marks) → xor_of s ≡ xor_of t → s ≡ t
    same_xor s t hs ht e =
        let ms = bits marks in
        let bs = within_are s ms (bits_are marks) hs in
        let bt = within_are t ms (bits_are marks) ht in
        let l : length s ≡ length t = within_length s ms hs ∙ sym (within_length t ms ht) in
        same_bits s t bs bt l
        (far (xor_bits s t) (xor_are s t bs bt) (omega (arith, differing_length s t l, within_length s ms hs, bits_length marks))
        (omega (arith, differing_most s t ms bs bt hs ht)) (differing_none s t bs bt l e))

    pub few_xors : (length (subsets (bits marks)) ≡ 2 ^ marked marks) × Distinct (map xor_of (subsets (bits marks)))
    few_xors = (
      subsets_many (bits marks) (bits_are marks),
      distinct_image xor_of (λ s. AtMarks s (bits marks)) same_xor (subsets (bits marks)) (subsets_within (bits marks)) (subsets_distinct (bits marks)),
    )

    pub not_two : (w : ℕ) (s t : List ℕ) (r : List (List ℕ)) → matching w (bits marks) ≡ s ∷ t ∷ r → ⊥
    not_two w s t r e = let m = match_two w (bits marks) s t r e in m.4 (same_xor s t m.0 m.2 (m.1 ∙ sym m.3))

  -- ---- a correction
  module _ (msg marks : List ℕ) (overlay limit : ℕ) (lent : Buffers) (short : length msg ≤ n) where
    pub few_undoubted : limit ≤ k → (correction msg marks overlay limit lent).number ≡ 13 → ⊥
    few_undoubted h e =
        let d = in_doubt msg marks overlay limit lent e in
        not_two marks (omega (arith, d.same)) (omega (arith, d.few)) (sought msg overlay) d.one d.other d.more d.found

    module _ (bytes : AreBytes msg) (in_limit : InLimit msg marks limit lent) (few : marked marks ≤ k) (frame : List ℕ)
        (fits : Fitting msg marks overlay frame) where
      same : length marks ≡ length msg
      same = (sizes (length msg) (length marks) (length lent.output) (length lent.places) in_limit.lengths).marks

      in_range_is : ranged overlay limit ≡ true
      in_range_is = ranged_in overlay limit (subst (λ (x : ℕ). x < 16777216) fits.overlaid (remainder_lt frame)) in_limit.most

      -- the subset that matches is where the two frames differ
      by_subset : (s : List ℕ) → differing msg frame ≡ s → flipped_by msg (s ∷ []) ≡ sent_back msg frame
      by_subset s e =
          ap (λ (u : List ℕ). flipped_by msg (u ∷ [])) (sym e)
          ∙ ap (λ (o : List ℕ). flips_of (differing msg frame) o) (flipped_back msg frame bytes fits.bytes fits.length_is)
        where
          flips_of : List ℕ → List ℕ → Correction
          flips_of u o = record { number = 0; flips = size_of u; buffers = buffers o (mark_buffer (length msg) u) }

      by_number : (l : List (List ℕ)) → matches_of msg marks overlay ≡ l
          → checked (match_checks l) (not_corrected lent) (flipped_by msg l) ≡ sent_back msg frame
      unfolding checked
      by_number [] e =
          absurd (match_none (sought msg overlay) (bits marks) (differing msg frame) (bits_are marks) e fits.at_marks
          (matched msg marks overlay same bytes frame fits))
      by_number (s ∷ []) e =
          by_subset s
          (match_only (sought msg overlay) (bits marks) s (differing msg frame) (bits_are marks) e fits.at_marks
          (matched msg marks overlay same bytes frame fits))
      by_number (s ∷ t ∷ r) e = absurd (not_two marks (omega (arith, same)) few (sought msg overlay) s t r e)

      pub few_sent : correction msg marks overlay limit lent ≡ sent_back msg frame
      few_sent =
          by_matches msg marks overlay limit lent in_limit.lengths in_range_is in_limit.few
          ∙ by_number (matches_of msg marks overlay) refl
