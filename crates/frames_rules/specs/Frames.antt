-- A frame's bytes: its fields, then its parity, "laid over" an overlay.
use Rattle.std.specs.Prelude.{ℕ, List, [], ◌++◌, eqb}
use Rattle.std.specs.Int.Bits.{bit_xor}
use Rattle.lists.specs.Lists.{pick}
use Rattle.parity_rules.specs.Messages.{bits}
use Rattle.parity_rules.specs.Division.{remainder_of}
use Rattle.frames_rules.specs.Bytes.{bytes_of}

-- all but the parity, of a frame of n bytes: bits 1 to 32, and bits 33 to 88 when it is long
unfoldable pub front : ℕ → ℕ → ℕ → List ℕ
front n head mid = bytes_of 4 head ++ pick (eqb n 14) (bytes_of 7 mid) []

-- the last 24 bits: the remainder of the bits before them, followed by 24 zeros, XOR the overlay
unfoldable pub sealed : List ℕ → ℕ → List ℕ
sealed s overlay = s ++ bytes_of 3 (bit_xor (remainder_of (bits (s ++ bytes_of 3 0))) overlay)

-- a frame of n bytes
abbrev pub framed : ℕ → ℕ → ℕ → ℕ → List ℕ
framed n head mid overlay = sealed (front n head mid) overlay
