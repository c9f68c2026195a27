-- Correction: every subset of the marked bits counts, and what it comes to goes by how many match.
-- A subset is a list of bits as long as the message, 1 where the bit is in it: so it reads as a mark buffer does.
use Rattle.std.specs.Prelude.{ℕ, zero, suc, ◌+◌, Bool, ◌&&◌, not, List, [], ◌∷◌, ◌++◌, map, eqb, leb, ltb, length, take, drop, replicate}
use Rattle.std.specs.Int.Bits.{bit_xor}
use Rattle.lists.specs.Lists.{filter, spelled}
use Rattle.lists.specs.Checks.{Check, check, checked}
use Rattle.parity_rules.specs.Messages.{bits, seven_or_fourteen}
use Rattle.parity_rules.specs.Answers.{Buffers, buffers, Correction, not_corrected}
use Rattle.parity_rules.specs.Division.{remainder_of, syndrome}

-- the number of places in a subset: "its size"
unfoldable pub size_of : List ℕ → ℕ
size_of [] = 0
size_of (b ∷ s) = b + size_of s

-- "every subset of the marked bits", each bit taken or not, "the empty one included"
unfoldable pub subsets : List ℕ → List (List ℕ)
subsets [] = [] ∷ []
subsets (zero ∷ ms) = map (λ s. 0 ∷ s) (subsets ms)
subsets (suc m ∷ ms) = map (λ s. 1 ∷ s) (subsets ms) ++ map (λ s. 0 ∷ s) (subsets ms)

-- "the XOR of its syndromes": a place with n places after it is x^n
unfoldable pub xor_of : List ℕ → ℕ
xor_of [] = 0
xor_of (zero ∷ s) = xor_of s
xor_of (suc b ∷ s) = bit_xor (syndrome (length s)) (xor_of s)

-- the subsets of the marked places that match: those whose XOR is `sought`
unfoldable pub matching : ℕ → List ℕ → List (List ℕ)
matching sought ms = filter (λ s. eqb (xor_of s) sought) (subsets ms)

-- "remainder XOR overlay"
abbrev pub sought : List ℕ → ℕ → ℕ
sought msg overlay = bit_xor (remainder_of (bits msg)) overlay

-- "the message with that subset flipped", byte by byte
unfoldable pub flipped : List ℕ → List ℕ → List ℕ
flipped [] s = []
flipped (b ∷ bs) s = bit_xor b (spelled 0 (take 8 s)) ∷ flipped bs (drop 8 s)

-- the subsets of the marked bits that match
abbrev pub matches_of : List ℕ → List ℕ → ℕ → List (List ℕ)
matches_of msg marks overlay = matching (sought msg overlay) (bits marks)

-- the first of some subsets
abbrev pub first : List (List ℕ) → List ℕ
first [] = []
first (s ∷ r) = s

-- a subset "as a mark buffer" of n bytes: zeros, with the places of the subset flipped
abbrev pub mark_buffer : ℕ → List ℕ → List ℕ
mark_buffer n s = flipped (replicate n 0) s

-- "exactly one match": the subset's size, the message with that subset flipped, and its places
abbrev pub flipped_by : List ℕ → List (List ℕ) → Correction
flipped_by msg l = record { number = 0; flips = size_of (first l); buffers = buffers (flipped msg (first l)) (mark_buffer (length msg) (first l)) }

-- 7 or 14 bytes, and the mark buffer and the two lent buffers as long as the message
abbrev pub sized : ℕ → ℕ → ℕ → ℕ → Bool
sized msg marks out places = eqb marks msg && eqb out msg && eqb places msg && seven_or_fourteen msg

-- an overlay of 24 bits and a limit of 0 to 12
abbrev pub ranged : ℕ → ℕ → Bool
ranged overlay limit = ltb overlay 0x1000000 && leb limit 12

-- 12: no subset matches; 13: more than one
abbrev pub match_checks : List (List ℕ) → List Check
match_checks l = check 12 (eqb (length l) 0) ∷ check 13 (ltb 1 (length l)) ∷ []

-- 11: more marks than the limit; then by the subsets that match
unfoldable pub mark_checks : List ℕ → List ℕ → ℕ → ℕ → List Check
mark_checks msg marks overlay limit = check 11 (ltb limit (size_of (bits marks))) ∷ match_checks (matches_of msg marks overlay)

-- 1: the lengths; 2: overlay and limit; then the marks
unfoldable pub correction_checks : List ℕ → List ℕ → ℕ → ℕ → Buffers → List Check
unfolding mark_checks
correction_checks msg marks overlay limit b =
    check 1 (not (sized (length msg) (length marks) (length b.output) (length b.places)))
    ∷ check 2 (not (ranged overlay limit))
    ∷ mark_checks msg marks overlay limit

-- a correction
unfoldable pub correction : List ℕ → List ℕ → ℕ → ℕ → Buffers → Correction
unfolding correction_checks
correction msg marks overlay limit b =
    checked (correction_checks msg marks overlay limit b) (not_corrected b) (flipped_by msg (matches_of msg marks overlay))
