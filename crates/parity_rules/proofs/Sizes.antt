-- How large the parts of a correction are, whatever the message, the marks, the overlay and the limit.
use mathlib.Core.Path.{◌≡◌, refl, sym, ◌∙◌}
use mathlib.Core.Bool.{true}
use mathlib.Core.List.{List, [], ◌∷◌}
use Prim.Native.Nat.{ℕ, ◌≤◌}
use native.Mathlib.Omega.{arith}
use lib.Dec.{leb, ltb}
use lib.ListN.{length, replicate, length-replicate}
use borrow.Author.Tests.{leb-true, ltb-false, not-false}
use Rattle.lists.specs.Lists.{All}
use Rattle.lists.specs.Checks.{check}
use Rattle.lists.proofs.Tests.{and_true}
use Rattle.lists.proofs.Checks.{Passed, whichever}
use Rattle.parity_rules.specs.Messages.{bits}
use Rattle.parity_rules.specs.Answers.{Buffers, Correction, not_corrected}
use Rattle.parity_rules.specs.Correction.{size_of, sought, matches_of, first, flipped_by, correction_checks, correction}
use Rattle.parity_rules.specs.Corrected.{AtMarks}
use Rattle.parity_rules.proofs.Flipped.{flipped_length}
use Rattle.parity_rules.proofs.Found.{match_is}
use Rattle.parity_rules.proofs.Judged.{sizes, only_match}

-- a number of at most 13, at most 12 flips, and buffers as long as they were
pub record Small (lent : Buffers) (o : Correction) : Type 0 where
  pub number : o.number ≤ 13
  pub flips : o.flips ≤ 12
  pub output : length o.buffers.output ≡ length lent.output
  pub places : length o.buffers.places ≡ length lent.places

-- a subset is no larger than what it is a subset of
within_weight : (s ms : List ℕ) → AtMarks s ms → size_of s ≤ size_of ms
unfolding size_of
within_weight [] [] h = omega arith
within_weight [] (m ∷ ms) h = absurd h
within_weight (b ∷ s) [] h = absurd h
within_weight (b ∷ s) (m ∷ ms) h = omega (arith, h.0, within_weight s ms h.1)

refused_small : (lent : Buffers) (n : ℕ) → n ≤ 13 → Small lent (not_corrected lent (check n true))
refused_small lent n h = record { number = h; flips = omega arith; output = refl; places = refl }

module _ (msg marks : List ℕ) (overlay limit : ℕ) (lent : Buffers) where
  one_small : Passed (correction_checks msg marks overlay limit lent) → Small lent (flipped_by msg (matches_of msg marks overlay))
  unfolding correction_checks
  one_small p =
      let r = and_true (ltb overlay 0x1000000) (leb limit 12) (not-false _ (p.off 2)) in
      let s = first (matches_of msg marks overlay) in
      let z = sizes (length msg) (length marks) (length lent.output) (length lent.places) (not-false _ (p.off 1)) in
      let w = match_is (sought msg overlay) (bits marks) s [] (only_match (matches_of msg marks overlay) (p.off 12) (p.off 13)) in
      record {
        number = omega arith;
        flips = omega (arith, leb-true limit 12 r.1, ltb-false limit (size_of (bits marks)) (p.off 11), within_weight s (bits marks) w.0);
        output = flipped_length msg s ∙ sym z.output;
        places = flipped_length (replicate (length msg) 0) s ∙ length-replicate (length msg) 0 ∙ sym z.places;
      }

  pub outcome_small : Small lent (correction msg marks overlay limit lent)
  unfolding All correction
  outcome_small =
      let by : (n : ℕ) → n ≤ 13 → Small lent (not_corrected lent (check n true)) = refused_small lent in
      whichever (Small lent) (correction_checks msg marks overlay limit lent) (not_corrected lent) (flipped_by msg (matches_of msg marks overlay))
      (by _ (omega arith), (by _ (omega arith), (by _ (omega arith), (by _ (omega arith), (by _ (omega arith), tt))))) one_small
