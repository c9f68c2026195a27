-- Published frames and codes at the edges, as one listing: what the definitions give beside what was published of each, or what document 01 says.
use Rattle.std.specs.Prelude.{ℕ, ◌-◌, ◌*◌, refl, List, [], ◌∷◌, replicate}
use Rattle.lists.specs.Lists.{pick}
use Rattle.lists.specs.Checks.{checked}
use Rattle.lists.specs.Listing.{Row, row, Agrees, ◌also◌}
use Rattle.parity_rules.specs.Messages.{bits}
use Rattle.parity_rules.specs.Division.{shift_in, divide, remainder_of}
use Rattle.frames_rules.specs.Fields.{head_of, mid_of}
use Rattle.frames_rules.specs.Building.{selective_ranged, building, all_call_ranged, all_calling}
use Rattle.frames_rules.specs.Building.{reply_ranged, replying, all_call_reply_ranged, all_call_replying}
use Rattle.frames_rules.specs.Reading.{read_as, read_up, read_down, selective_read, all_call_read, surveillance_read, all_call_reply_read, mb_part}
use Rattle.frames_rules.specs.Shared.{code_for, code_told, drawn, drawn_told}
use Rattle.frames_rules.specs.Addresses.{quotient_bits, quotient_of, address_of, address_told}
use Rattle.frames_rules.specs.Codes.{whose, code_of}

-- a reply read alone: its number, then its values
abbrev read : List ℕ → List ℕ
read m = let a = read_down m in a.number ∷ a.values

-- whose code it carries, for CL, IC and permission: the number, then own 0, matching II 1, other 2
abbrev coded : List ℕ → ℕ → ℕ → ℕ → List ℕ
coded m cl ic permit = let a = code_of m cl ic permit in a.number ∷ a.values

-- a DF 11 for SI 6, and a squitter
abbrev sixth : List ℕ
sixth = 0x5D ∷ 0x48 ∷ 0x4F ∷ 0xDE ∷ 0xA2 ∷ 0x48 ∷ 0xF5 ∷ []

-- the same reply to II 6
abbrev second : List ℕ
second = 0x5D ∷ 0x48 ∷ 0x4F ∷ 0xDE ∷ 0xA2 ∷ 0x48 ∷ 0xE5 ∷ []

abbrev squitter : List ℕ
squitter = 0x5D ∷ 0x3C ∷ 0x66 ∷ 0x14 ∷ 0xC3 ∷ 0x15 ∷ 0xD2 ∷ []

-- the code that CL and IC stand for, and the format that UF and RR draw
abbrev code : ℕ → ℕ → List ℕ
code cl ic = (code_told cl ic).values

abbrev draws : ℕ → ℕ → List ℕ
draws uf rr = (drawn_told uf rr).values

-- a builder's number, and what its buffer of seven nines then holds
abbrev built : ℕ → ℕ → List ℕ
built uf address = let o = building uf 0 0 0 0 (replicate 7 0) address (replicate 7 9) in o.number ∷ o.output

-- 1 where UF, RR and MA are in their ranges, with PC, DI and SD at their highest
abbrev ranged : ℕ → ℕ → ℕ → ℕ
ranged uf rr ma = pick (selective_ranged uf 7 rr 7 0xFFFF ma 1) 1 0

-- ---- the tables at their edges, by the numbers that they give
-- UF 4 built with PC, RR, DI and SD for an address, into a buffer of this length; a UF built with an MA and a buffer of these lengths
abbrev built4 : ℕ → ℕ → ℕ → ℕ → ℕ → ℕ → ℕ
built4 pc rr di sd address out = (building 4 pc rr di sd (replicate 7 0) address (replicate out 9)).number

abbrev built_as : ℕ → ℕ → ℕ → ℕ
built_as uf ma out = (building uf 0 0 0 0 (replicate ma 0) 1 (replicate out 9)).number

-- UF 11 built with PR, IC and CL into a buffer of this length
abbrev called : ℕ → ℕ → ℕ → ℕ → ℕ
called pr ic cl out = (all_calling pr ic cl (replicate out 9)).number

-- DF 4 built with FS, DR, UM, AC and MB of an address; a DF built with MB into a buffer of this length; and DF 11
abbrev replied4 : ℕ → ℕ → ℕ → ℕ → ℕ → ℕ → ℕ
replied4 fs dr um ac mb address = (replying 4 fs dr um ac mb address (replicate 7 9)).number

abbrev replied_as : ℕ → ℕ → ℕ → ℕ
replied_as df mb out = (replying df 0 0 0 0 mb 1 (replicate out 9)).number

abbrev replied_call : ℕ → ℕ → ℕ → ℕ → ℕ → ℕ
replied_call ca address cl ic out = (all_call_replying ca address cl ic (replicate out 9)).number

-- a message of so many bytes with this format, read, and asked for its code
abbrev of_format : ℕ → ℕ → List ℕ
of_format f n = 8 * f ∷ replicate (n - 1) 0

abbrev read_alone : ℕ → ℕ → ℕ
read_alone f n = (read_up (of_format f n)).number

abbrev asked : ℕ → ℕ → ℕ → ℕ → ℕ → ℕ
asked f n cl ic permit = (code_of (of_format f n) cl ic permit).number

-- the published frames with every field given, codes of two of them, the MB bytes of one, the codes and what is drawn at the edges,
-- the address of an overlay, and refusals; then each line of a table at its edge, and of two faults the first line's number
abbrev pub listing : List Row
listing =
    row (read sixth) (0 ∷ 11 ∷ 5 ∷ 0x484FDE ∷ 0x16 ∷ [])
    ∷ row (read squitter) (0 ∷ 11 ∷ 5 ∷ 0x3C6614 ∷ 0 ∷ [])
    ∷ row (read (0x5D ∷ 0x4D ∷ 0x20 ∷ 0x23 ∷ 0x7A ∷ 0x55 ∷ 0xA6 ∷ [])) (0 ∷ 11 ∷ 5 ∷ 0x4D2023 ∷ 0 ∷ [])
    ∷ row (read (0x20 ∷ 0x00 ∷ 0x17 ∷ 0x18 ∷ 0x02 ∷ 0x9F ∷ 0xCD ∷ [])) (0 ∷ 4 ∷ 0 ∷ 0 ∷ 0 ∷ 0x1718 ∷ 0 ∷ 0x4891A6 ∷ [])
    ∷ row (read (0x2A ∷ 0x00 ∷ 0x51 ∷ 0x6D ∷ 0x49 ∷ 0x2B ∷ 0x80 ∷ [])) (0 ∷ 5 ∷ 2 ∷ 0 ∷ 2 ∷ 0x116D ∷ 0 ∷ 0x510AF9 ∷ [])
    ∷ row (read (0xA0 ∷ 0x20 ∷ 0x14 ∷ 0xB4 ∷ 0x00 ∷ 0x00 ∷ 0x00 ∷ 0x00 ∷ 0x00 ∷ 0x00 ∷ 0x00 ∷ 0xF9 ∷ 0xD5 ∷ 0x14 ∷ []))
    (0 ∷ 20 ∷ 0 ∷ 4 ∷ 0 ∷ 0x14B4 ∷ 0 ∷ 0x7582F7 ∷ [])
    ∷ row (read (0xA8 ∷ 0x00 ∷ 0x29 ∷ 0x2D ∷ 0xFF ∷ 0xBB ∷ 0xA9 ∷ 0x38 ∷ 0x3F ∷ 0xFC ∷ 0xEB ∷ 0x90 ∷ 0x3D ∷ 0x01 ∷ []))
    (0 ∷ 21 ∷ 0 ∷ 0 ∷ 1 ∷ 0x092D ∷ 0xFFBBA9383FFCEB ∷ 0xD9938E ∷ [])
    ∷ row (read (0xA0 ∷ 0x00 ∷ 0x08 ∷ 0x3E ∷ 0x20 ∷ 0x2C ∷ 0xC3 ∷ 0x71 ∷ 0xC3 ∷ 0x1D ∷ 0xE0 ∷ 0xAA ∷ 0x1C ∷ 0xCF ∷ []))
    (0 ∷ 20 ∷ 0 ∷ 0 ∷ 0 ∷ 0x083E ∷ 0x202CC371C31DE0 ∷ 0x484163 ∷ [])
    ∷ row (read (0xA0 ∷ 0x00 ∷ 0x18 ∷ 0x38 ∷ 0x20 ∷ 0x15 ∷ 0x84 ∷ 0xF2 ∷ 0x34 ∷ 0x68 ∷ 0x20 ∷ 0x7C ∷ 0xDF ∷ 0xA5 ∷ []))
    (0 ∷ 20 ∷ 0 ∷ 0 ∷ 0 ∷ 0x1838 ∷ 0x201584F2346820 ∷ 0x40655A ∷ [])
    ∷ row (read (0x8D ∷ 0x40 ∷ 0x6B ∷ 0x90 ∷ 0x20 ∷ 0x15 ∷ 0xA6 ∷ 0x78 ∷ 0xD4 ∷ 0xD2 ∷ 0x20 ∷ 0xAA ∷ 0x4B ∷ 0xDA ∷ [])) (14 ∷ [])
    ∷ row (coded sixth 1 6 0) (0 ∷ 0 ∷ [])
    ∷ row (coded sixth 0 6 0) (0 ∷ 2 ∷ [])
    ∷ row (coded second 1 6 0) (0 ∷ 2 ∷ [])
    ∷ row (coded second 1 6 1) (0 ∷ 1 ∷ [])
    ∷ row (coded squitter 0 0 0) (0 ∷ 0 ∷ [])
    ∷ row (coded squitter 2 0 1) (0 ∷ 2 ∷ [])
    ∷ row (mb_part (0xA0 ∷ 0x00 ∷ 0x08 ∷ 0x3E ∷ 0x20 ∷ 0x2C ∷ 0xC3 ∷ 0x71 ∷ 0xC3 ∷ 0x1D ∷ 0xE0 ∷ 0xAA ∷ 0x1C ∷ 0xCF ∷ []))
    (0x20 ∷ 0x2C ∷ 0xC3 ∷ 0x71 ∷ 0xC3 ∷ 0x1D ∷ 0xE0 ∷ [])
    ∷ row (mb_part squitter) []
    ∷ row (code 0 15) (0 ∷ 15 ∷ [])
    ∷ row (code 1 6) (1 ∷ 6 ∷ [])
    ∷ row (code 4 15) (1 ∷ 63 ∷ [])
    ∷ row (code 1 0) []
    ∷ row (code 5 3) []
    ∷ row (draws 4 15) (4 ∷ [])
    ∷ row (draws 4 16) (20 ∷ [])
    ∷ row (draws 20 0) (4 ∷ [])
    ∷ row (draws 21 31) (21 ∷ [])
    ∷ row (draws 11 0) []
    ∷ row (address_told 0xFFFA04).values (0x800000 ∷ [])
    ∷ row (address_told 0x1000000).values []
    ∷ row (built 6 1) (2 ∷ replicate 7 9)
    ∷ row (built 4 0) (2 ∷ replicate 7 9)
    ∷ row (built 4 0xFFFFFF) (2 ∷ replicate 7 9)
    ∷ row (ranged 4 31 0 ∷ ranged 20 31 0xFFFFFFFFFFFFFF ∷ []) (1 ∷ 1 ∷ [])
    ∷ row (ranged 6 0 0 ∷ ranged 11 0 0 ∷ ranged 4 32 0 ∷ ranged 5 0 1 ∷ ranged 21 0 0x100000000000000 ∷ []) (replicate 5 0)
    ∷ row (built_as 3 7 7 ∷ built_as 4 7 7 ∷ built_as 5 7 7 ∷ built_as 6 7 7 ∷ built_as 11 7 7
    ∷ built_as 19 7 14 ∷ built_as 20 7 14 ∷ built_as 21 7 14 ∷ built_as 22 7 14 ∷ [])
    (2 ∷ 0 ∷ 0 ∷ 2 ∷ 2 ∷ 2 ∷ 0 ∷ 0 ∷ 2 ∷ [])
    ∷ row (built_as 4 7 6 ∷ built_as 4 7 8 ∷ built_as 20 7 13 ∷ built_as 20 7 15 ∷ built_as 20 6 14 ∷ built_as 20 8 14 ∷ built_as 6 8 8 ∷ [])
    (1 ∷ 1 ∷ 1 ∷ 1 ∷ 1 ∷ 1 ∷ 2 ∷ [])
    ∷ row (built4 7 31 7 65535 1 7 ∷ built4 8 31 7 65535 1 7 ∷ built4 7 32 7 65535 1 7 ∷ built4 7 31 8 65535 1 7
    ∷ built4 7 31 7 65536 1 7 ∷ built4 8 0 0 0 1 8 ∷ [])
    (0 ∷ 2 ∷ 2 ∷ 2 ∷ 2 ∷ 1 ∷ [])
    ∷ row (built4 0 0 0 0 0 7 ∷ built4 0 0 0 0 16777214 7 ∷ built4 0 0 0 0 16777215 7 ∷ []) (2 ∷ 0 ∷ 2 ∷ [])
    ∷ row (called 15 15 7 6 ∷ called 15 15 7 7 ∷ called 15 15 7 14 ∷ called 16 15 7 7 ∷ called 15 16 7 7 ∷ called 15 15 8 7 ∷ called 16 15 7 14 ∷ [])
    (1 ∷ 0 ∷ 1 ∷ 2 ∷ 2 ∷ 2 ∷ 1 ∷ [])
    ∷ row (replied_as 3 0 7 ∷ replied_as 4 0 7 ∷ replied_as 5 0 7 ∷ replied_as 6 0 7 ∷ replied_as 11 0 7
    ∷ replied_as 20 0 14 ∷ replied_as 21 0 14 ∷ replied_as 22 0 14 ∷ [])
    (2 ∷ 0 ∷ 0 ∷ 2 ∷ 2 ∷ 0 ∷ 0 ∷ 2 ∷ [])
    ∷ row (replied_as 4 0 6 ∷ replied_as 4 0 8 ∷ replied_as 20 0 7 ∷ replied_as 20 0 15 ∷ replied_as 6 0 8 ∷ []) (1 ∷ 1 ∷ 1 ∷ 1 ∷ 2 ∷ [])
    ∷ row (replied4 7 31 63 8191 0 1 ∷ replied4 8 31 63 8191 0 1 ∷ replied4 7 32 63 8191 0 1 ∷ replied4 7 31 64 8191 0 1
    ∷ replied4 7 31 63 8192 0 1 ∷ replied4 7 31 63 8191 1 1 ∷ [])
    (0 ∷ 2 ∷ 2 ∷ 2 ∷ 2 ∷ 2 ∷ [])
    ∷ row (replied4 0 0 0 0 0 0 ∷ replied4 0 0 0 0 0 16777215 ∷ replied_as 20 0xFFFFFFFFFFFFFF 14
    ∷ replied_as 20 0x100000000000000 14 ∷ replied_as 20 0x100000000000000 7 ∷ [])
    (2 ∷ 2 ∷ 0 ∷ 2 ∷ 1 ∷ [])
    ∷ row (replied_call 7 1 7 15 6 ∷ replied_call 7 1 7 15 7 ∷ replied_call 7 1 7 15 14 ∷ replied_call 8 1 7 15 14 ∷ []) (1 ∷ 0 ∷ 1 ∷ 1 ∷ [])
    ∷ row (replied_call 8 1 7 15 7 ∷ replied_call 7 0 7 15 7 ∷ replied_call 7 16777215 7 15 7 ∷ replied_call 7 1 8 15 7 ∷ replied_call 7 1 7 16 7 ∷ [])
    (replicate 5 2)
    ∷ row (read_alone 4 6 ∷ read_alone 4 7 ∷ read_alone 4 8 ∷ read_alone 20 13 ∷ read_alone 20 14 ∷ read_alone 20 15 ∷ read_alone 6 8 ∷ [])
    (1 ∷ 0 ∷ 1 ∷ 1 ∷ 0 ∷ 1 ∷ 1 ∷ [])
    ∷ row (read_alone 5 7 ∷ read_alone 6 7 ∷ read_alone 11 7 ∷ read_alone 11 14 ∷ read_alone 4 14 ∷ read_alone 20 7 ∷ read_alone 21 14 ∷ read_alone 22 14 ∷ [])
    (0 ∷ 14 ∷ 0 ∷ 14 ∷ 14 ∷ 14 ∷ 0 ∷ 14 ∷ [])
    ∷ row (asked 11 6 8 0 0 ∷ asked 11 7 7 15 1 ∷ asked 11 8 8 0 0 ∷ asked 11 13 0 0 0 ∷ asked 11 15 0 0 0 ∷ []) (1 ∷ 0 ∷ 1 ∷ 1 ∷ 1 ∷ [])
    ∷ row (asked 11 7 8 15 1 ∷ asked 11 7 7 16 1 ∷ asked 11 7 7 15 2 ∷ asked 4 7 8 15 1 ∷ []) (replicate 4 2)
    ∷ row (asked 11 14 7 15 1 ∷ asked 10 7 7 15 1 ∷ asked 12 7 7 15 1 ∷ []) (replicate 3 14)
    ∷ []

-- the one claim
pub frames_agree : Agrees listing
unfolding checked bits shift_in divide remainder_of head_of mid_of read_as selective_read all_call_read surveillance_read all_call_reply_read whose
    code_of code_for
    code_told drawn drawn_told quotient_bits quotient_of address_of address_told selective_ranged building all_call_ranged all_calling reply_ranged replying
    all_call_reply_ranged all_call_replying
frames_agree =
    refl also refl also refl also refl also refl also refl also refl also refl also refl also refl also refl also refl also refl also refl also refl also
    refl also refl also refl also refl also refl also refl also refl also refl also refl also refl also refl also refl also refl also refl also refl also
    refl also refl also refl also refl also refl also refl also refl also refl also refl also refl also refl also refl also refl also refl also refl also
    refl also refl also refl also refl also refl also refl also tt
