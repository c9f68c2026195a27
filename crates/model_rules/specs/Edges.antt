-- Edges that no theorem tells, as one listing: what the definitions give beside what document 01 says, worked by hand. Replies are in crate `worked`.
use Rattle.std.specs.Prelude.{ℕ, List, [], ◌∷◌, ◌++◌, replicate}
use Rattle.lists.specs.Checks.{given}
use Rattle.lists.specs.Listing.{Row, row}
use Rattle.frames_rules.specs.Fields.{bits_to, in_field}
use Rattle.model_rules.specs.Replies.{bds2}
use Rattle.model_rules.specs.Calls.{taking_checks}

-- ---- the number of a frame of so many bytes at a time with a draw, after one at 100
abbrev judged : ℕ → ℕ → ℕ → ℕ
judged time draw bytes = given (taking_checks 100 time draw (replicate bytes 0))

abbrev frames : List Row
frames =
    -- "bytes neither 7 nor 14" are 1, before 2 and 15
    row (judged 100 0 7 ∷ judged 100 0 14 ∷ []) (0 ∷ 0 ∷ [])
    ∷ row (judged 100 0 6 ∷ judged 100 0 8 ∷ judged 100 0 13 ∷ judged 100 0 15 ∷ judged 99 16 13 ∷ []) (1 ∷ 1 ∷ 1 ∷ 1 ∷ 1 ∷ [])
    -- a draw of 15 is taken and 16 is 2, before 15
    ∷ row (judged 100 15 7 ∷ judged 100 16 7 ∷ judged 99 16 7 ∷ []) (0 ∷ 2 ∷ 2 ∷ [])
    -- equal times are taken, and one before the last is 15
    ∷ row (judged 100 0 7 ∷ judged 99 0 7 ∷ []) (0 ∷ 15 ∷ [])
    ∷ []

-- ---- BDS2 is RRS: bits 21-24 for DI 7 and bits 24-27 for DI 3; for any other DI it is zero
abbrev registers : List Row
registers =
    row (bds2 7 (in_field (bits_to 21 24) 9) ∷ bds2 7 (in_field (bits_to 25 27) 7) ∷ []) (9 ∷ 0 ∷ [])
    ∷ row (bds2 3 (in_field (bits_to 24 27) 9) ∷ bds2 3 (in_field (bits_to 21 23) 7) ∷ []) (9 ∷ 0 ∷ [])
    ∷ row (bds2 0 0xFFFF ∷ bds2 1 0xFFFF ∷ []) (0 ∷ 0 ∷ [])
    ∷ []

-- ---- all of them; proofs/Edges.antt has the one claim
abbrev pub listing : List Row
listing = frames ++ registers
