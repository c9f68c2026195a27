-- The starred examples of document 01 that speak of parity, and each line of the tables on either side of its edge, as one listing: what the
-- definitions give beside what the paper gives.
use Rattle.std.specs.Prelude.{ℕ, ◌-◌, ◌/◌, ◌%◌, ◌^◌, refl, List, [], ◌∷◌, ◌++◌, length, get_or, replicate, set}
use Rattle.std.specs.Int.Bits.{bit_xor}
use Rattle.lists.specs.Listing.{Row, row, Agrees, ◌also◌}
use Rattle.lists.specs.Lists.{filter}
use Rattle.lists.specs.Checks.{checked}
use Rattle.parity_rules.specs.Messages.{bits}
use Rattle.parity_rules.specs.Division.{shift_in, divide, remainder_of, remainder_answer, syndrome, syndrome_of_bit}
use Rattle.parity_rules.specs.Overlays.{low_bits, times, overlay_of, uplink_overlay, code_overlay}
use Rattle.parity_rules.specs.Answers.{Buffers, buffers}
use Rattle.parity_rules.specs.Places.{places_from, places_told}
use Rattle.parity_rules.specs.Correction.{size_of, subsets, xor_of, matching, flipped, correction}

-- the syndrome of long bit i
abbrev long : ℕ → ℕ
long i = syndrome_of_bit 112 i

-- a message whose byte of bit i, from 1, has that bit alone
abbrev one_bit : ℕ → List ℕ → List ℕ
one_bit i m = set m ((i - 1) / 8) (2 ^ (7 - (i - 1) % 8))

-- the long zero message, and those with bits 1, 31 and 111, with 1 and 31, and with 111
abbrev zeros : List ℕ
zeros = replicate 14 0

abbrev three : List ℕ
three = one_bit 1 (one_bit 31 (one_bit 111 zeros))

abbrev two : List ℕ
two = one_bit 1 (one_bit 31 zeros)

abbrev last : List ℕ
last = one_bit 111 zeros

-- the buffers before the call
abbrev before : List ℕ
before = replicate 14 255

abbrev lent : Buffers
lent = buffers before (replicate 14 254)

-- a correction's number, its flips, the numbers of the places that it tells, and what the two buffers then hold
abbrev corrected : List ℕ → List ℕ → ℕ → ℕ → List ℕ
corrected msg marks overlay limit =
    let c = correction msg marks overlay limit lent in
    c.number ∷ c.flips ∷ (places_told c ++ (c.buffers.output ++ c.buffers.places))

-- taken: the places' numbers, the message and the places; refused: the buffers as they were
abbrev taken : List ℕ → List ℕ → List ℕ → List ℕ
taken ps msg places = 0 ∷ length ps ∷ (ps ++ (msg ++ places))

abbrev refused : ℕ → List ℕ
refused n = n ∷ 0 ∷ (lent.output ++ lent.places)

-- an uplink overlay's value
abbrev uplink : ℕ → ℕ
uplink a = get_or (uplink_overlay a).values 0 0

-- ---- the tables at their edges
-- the number of a correction of zeros with buffers of these lengths, and of one with this overlay and limit
abbrev with_lengths : ℕ → ℕ → ℕ → ℕ → ℕ
with_lengths msg marks out places = (correction (replicate msg 0) (replicate marks 0) 0 0 (buffers (replicate out 255) (replicate places 255))).number

abbrev all_of : ℕ → ℕ
all_of n = with_lengths n n n n

abbrev with_ranges : ℕ → ℕ → ℕ
with_ranges overlay limit = (correction zeros zeros overlay limit lent).number

-- the kept example of refusal 13: these six places are a code word, so they and none of them match; without the last only the empty subset does
abbrev five : List ℕ
five = 0 ∷ 0 ∷ 0 ∷ 0 ∷ 0 ∷ 1 ∷ 6 ∷ 64 ∷ 0 ∷ 0 ∷ 0 ∷ 0 ∷ 32 ∷ 0 ∷ []

abbrev six : List ℕ
six = 0 ∷ 0 ∷ 0 ∷ 0 ∷ 0 ∷ 1 ∷ 6 ∷ 64 ∷ 0 ∷ 0 ∷ 0 ∷ 0 ∷ 32 ∷ 1 ∷ []

-- the numbers of a remainder of so many zeros, of an uplink overlay, and of a code's
abbrev divided : ℕ → ℕ
divided n = (remainder_answer (replicate n 0)).number

abbrev overlaid : ℕ → ℕ
overlaid a = (uplink_overlay a).number

abbrev coded : ℕ → ℕ → List ℕ
coded cl ic = let a = code_overlay cl ic in a.number ∷ a.values

-- the starred examples, in the paper's order; then each line at its edge, and of two faults the first line's number
abbrev pub listing : List Row
listing =
    row (long 1 ∷ long 31 ∷ long 111 ∷ []) (0x3935EA ∷ 0xFDB444 ∷ 0x000002 ∷ [])
    ∷ row (bit_xor (bit_xor (long 1) (long 31)) (long 111) ∷ []) (0xC481AC ∷ [])
    ∷ row (corrected three three 0 5) (taken (1 ∷ 31 ∷ 111 ∷ []) zeros three)
    ∷ row (corrected three two 0 5) (refused 12)
    ∷ row (corrected three three 0 2) (refused 11)
    ∷ row (corrected zeros last 0x000002 5) (taken (111 ∷ []) last last)
    ∷ row (uplink 0x000001 ∷ uplink 0x000002 ∷ uplink 0x000004 ∷ uplink 0x800000 ∷ []) (0x000001 ∷ 0x000003 ∷ 0x000007 ∷ 0xFFFA04 ∷ [])
    ∷ row (divided 6 ∷ divided 7 ∷ divided 8 ∷ divided 13 ∷ divided 14 ∷ divided 15 ∷ []) (1 ∷ 0 ∷ 1 ∷ 1 ∷ 0 ∷ 1 ∷ [])
    ∷ row (overlaid 0xFFFFFF ∷ overlaid 0x1000000 ∷ []) (0 ∷ 2 ∷ [])
    ∷ row (coded 7 15) (0 ∷ 127 ∷ [])
    ∷ row (coded 8 15) (2 ∷ [])
    ∷ row (coded 7 16) (2 ∷ [])
    ∷ row (all_of 6 ∷ all_of 7 ∷ all_of 8 ∷ all_of 13 ∷ all_of 14 ∷ all_of 15 ∷ [])
    (1 ∷ 0 ∷ 1 ∷ 1 ∷ 0 ∷ 1 ∷ [])
    ∷ row (with_lengths 14 7 14 14 ∷ with_lengths 14 14 7 14 ∷ with_lengths 14 14 14 7 ∷ with_lengths 7 7 7 14 ∷ []) (1 ∷ 1 ∷ 1 ∷ 1 ∷ [])
    ∷ row (with_ranges 0xFFFFFF 12 ∷ with_ranges 0x1000000 12 ∷ with_ranges 0 13 ∷ []) (12 ∷ 2 ∷ 2 ∷ [])
    ∷ row (corrected three three 0 3) (taken (1 ∷ 31 ∷ 111 ∷ []) zeros three)
    ∷ row (corrected zeros five 0 6) (taken [] zeros zeros)
    ∷ row (corrected zeros six 0 6) (refused 13)
    ∷ row ((correction three two 0x1000000 13 (buffers (replicate 7 255) before)).number ∷ corrected three two 0x1000000 1) (1 ∷ refused 2)
    ∷ row (corrected three two 0 1) (refused 11)
    -- of three marked bits one is flipped
    ∷ row (corrected zeros three 0x000002 5) (taken (111 ∷ []) last last)
    ∷ []

-- the one claim
pub corrections_agree : Agrees listing
unfolding filter checked bits shift_in divide remainder_of syndrome size_of subsets xor_of matching flipped correction low_bits times overlay_of
    remainder_answer
    uplink_overlay code_overlay places_from
corrections_agree =
    refl also refl also refl also refl also refl also refl also refl also refl also refl also refl also
    refl also refl also refl also refl also refl also refl also refl also refl also refl also refl also
    refl also tt
