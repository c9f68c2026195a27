-- What a taken correction is: "becomes that one message", its places are where message and output differ, and its flips are "the number of places
-- marked".
use Rattle.std.specs.Prelude.{ℕ, ◌≤◌, ◌≡◌, List, [], ◌∷◌, length}
use Rattle.parity_rules.specs.Messages.{bits, differing, AreBytes}
use Rattle.parity_rules.specs.Division.{remainder_of}
use Rattle.parity_rules.specs.Answers.{Buffers}
use Rattle.parity_rules.specs.Correction.{size_of, flipped}

-- a list of places has its ones only where the marks have ones
abbrev pub AtMarks : List ℕ → List ℕ → Type 0
AtMarks [] [] = Unit {0}
AtMarks [] (m ∷ ms) = ⊥
AtMarks (b ∷ s) [] = ⊥
AtMarks (b ∷ s) (m ∷ ms) = (b ≤ m) × AtMarks s ms

-- o is a message as long as msg, differs from it at marked places only, and has the overlay as its remainder
pub record Fitting (msg marks : List ℕ) (overlay : ℕ) (o : List ℕ) : Type 0 where
  pub bytes : AreBytes o
  pub length_is : length o ≡ length msg
  pub at_marks : AtMarks (differing msg o) (bits marks)
  pub overlaid : remainder_of (bits o) ≡ overlay

-- the output is the one such message; the places are exactly where message and output differ, all of them marked; n is how many they are; flipped
-- again they give the message that came in
pub record Corrected (msg marks : List ℕ) (overlay n : ℕ) (b : Buffers) : Type 0 where
  pub fits : Fitting msg marks overlay b.output
  pub only : (o : List ℕ) → Fitting msg marks overlay o → o ≡ b.output
  pub places : bits b.places ≡ differing msg b.output
  pub marked : AtMarks (bits b.places) (bits marks)
  pub flips : n ≡ size_of (bits b.places)
  pub back : flipped b.output (bits b.places) ≡ msg
