-- What is certain of a correction with few marks: it is never in doubt, it brings the frame sent back, and chance can do so much and no more.
use Rattle.std.specs.Prelude.{ℕ, suc, ◌*◌, ◌-◌, ◌^◌, ◌≤◌, ◌≡◌, true, List, map, eqb, length, replicate}
use Rattle.lists.specs.Lists.{count_below, Distinct}
use Rattle.lists.specs.Checks.{check}
use Rattle.parity_rules.specs.Messages.{bits, differing, AreBytes}
use Rattle.parity_rules.specs.Division.{remainder_of}
use Rattle.parity_rules.specs.Answers.{Buffers, buffers, Correction, not_corrected}
use Rattle.parity_rules.specs.Correction.{size_of, subsets, xor_of, mark_buffer, sized, correction}
use Rattle.parity_rules.specs.Places.{places_in}
use Rattle.parity_rules.specs.Corrected.{Fitting}
use Rattle.parity_rules.specs.Distance.{Distance}

-- how many bits are marked
abbrev pub marked : List ℕ → ℕ
marked marks = size_of (bits marks)

-- a correction that 1, 2 and 11 do not refuse, whatever its overlay of 24 bits: the lengths are right, the limit is at most 12, and "no more than the limit"
-- are marked
pub record InLimit (msg marks : List ℕ) (limit : ℕ) (lent : Buffers) : Type 0 where
  pub lengths : sized (length msg) (length marks) (length lent.output) (length lent.places) ≡ true
  pub most : limit ≤ 12
  pub few : marked marks ≤ limit

-- "the answer is the frame sent": 0, the flips are the places where it differs from the frame received, and these are the places told
abbrev pub sent_back : List ℕ → List ℕ → Correction
sent_back msg sent =
    record { number = 0; flips = size_of (differing msg sent); buffers = buffers sent (mark_buffer (length msg) (differing msg sent)) }

-- how many of the 2^24 overlays a correction of this message is believed over
abbrev pub believed_over : List ℕ → List ℕ → ℕ → Buffers → ℕ
believed_over msg marks limit lent = count_below (λ overlay. eqb (correction msg marks overlay limit lent).number 0) 0x1000000

-- what is certain of messages of at most n bytes with at most k marks
pub record Certain (n k : ℕ) : Type 0 where
  -- two messages of one length and overlay that differ in at most k places are one: none differ in one to k
  pub apart : (m o : List ℕ) → AreBytes m → AreBytes o → length m ≤ n → length o ≡ length m → remainder_of (bits m) ≡ remainder_of (bits o)
      → size_of (differing m o) ≤ k → m ≡ o
  -- with a limit of k or less refusal 13 never comes
  pub undoubted : (msg marks : List ℕ) (overlay limit : ℕ) (lent : Buffers) → length msg ≤ n → limit ≤ k
      → (correction msg marks overlay limit lent).number ≡ 13 → ⊥
  -- at most k bits are marked, "the frame sent had the right overlay and differs from the frame received only at marked bits": the answer is the frame sent
  pub sent : (msg marks : List ℕ) (overlay limit : ℕ) (lent : Buffers) (frame : List ℕ) → length msg ≤ n → AreBytes msg → InLimit msg marks limit lent
      → marked marks ≤ k → Fitting msg marks overlay frame → correction msg marks overlay limit lent ≡ sent_back msg frame
  -- m marks have 2^m subsets, and no two of these have the same XOR
  pub xors : (marks : List ℕ) → length marks ≤ n → marked marks ≤ k
      → (length (subsets (bits marks)) ≡ 2 ^ marked marks) × Distinct (map xor_of (subsets (bits marks)))
  -- so a message is believed over 2^m of the 2^24 overlays, one in 2^(24−m), and over no other
  pub chance : (msg marks : List ℕ) (limit : ℕ) (lent : Buffers) → length msg ≤ n → InLimit msg marks limit lent → marked marks ≤ k
      → (believed_over msg marks limit lent ≡ 2 ^ marked marks) × (believed_over msg marks limit lent * 2 ^ (24 - marked marks) ≡ 0x1000000)

-- it is certain by the distance alone: where that is more than k at n bytes
abbrev pub ByDistance : Type 0
ByDistance = (n k : ℕ) → Distance (n * 8) (suc k) → Certain n k

-- no more is certain of n bytes: a word that differs from zeros in k + 1 places and has their overlay, 0. With these places marked and a limit from k + 1 to
-- 12 the two cannot be told apart: 13, into whatever buffers
pub record Reached (n k : ℕ) (word places : List ℕ) : Type 0 where
  pub bytes : AreBytes word
  pub length_is : length word ≡ n
  pub places_are : places_in word ≡ places
  pub apart : size_of (differing (replicate n 0) word) ≡ suc k
  pub overlay : remainder_of (bits word) ≡ remainder_of (bits (replicate n 0))
  pub doubt : (limit : ℕ) (lent : Buffers) → length lent.output ≡ n → length lent.places ≡ n → suc k ≤ limit → limit ≤ 12
      → correction (replicate n 0) word 0 limit lent ≡ not_corrected lent (check 13 true)
