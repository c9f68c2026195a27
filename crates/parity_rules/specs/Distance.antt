-- The Hamming distance, of the generator's code words.
use Rattle.std.specs.Prelude.{ℕ, ◌<◌, ◌≤◌, ◌≡◌, List, length}
use Rattle.parity_rules.specs.Messages.{AreBits}
use Rattle.parity_rules.specs.Correction.{size_of, xor_of}

-- "the Hamming distance" of messages of at most n bits is k or more: fewer than k places, but none, never have the XOR of syndromes zero
abbrev pub Distance : ℕ → ℕ → Type 0
Distance n k = (d : List ℕ) → AreBits d → length d ≤ n → size_of d < k → xor_of d ≡ 0 → size_of d ≡ 0
