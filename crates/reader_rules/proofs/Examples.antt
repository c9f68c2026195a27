-- Records worked by hand from document 01's "Record stream and program", as one listing: those of case P1, others whose bytes differ, and places on either
-- side of each line of the table.
use Prim.Native.Nat.{ℕ}
use mathlib.Core.Path.{refl}
use mathlib.Core.List.{List, [], ◌∷◌, ◌++◌, map}
use lib.ListN.{replicate}
use Rattle.lists.specs.Checks.{checked}
use Rattle.lists.specs.Listing.{Row, row, Agrees}
use Rattle.reader_rules.specs.Records.{body_length, message_length, number_at, record_at}
use Rattle.reader_rules.specs.Answers.{said_at}
use Rattle.reader_rules.specs.Fields.{eight_at, setup_at, edges_at, address_at, request_at, tag_at, reply_at}

-- ---- what stands at a place: its number, then its values
abbrev said : List ℕ → ℕ → List ℕ
said s at = let a = said_at s at in a.number ∷ a.values

-- kind 3, remove address 1; then, as the last byte, a kind that is unknown
abbrev removed : List ℕ
removed = 3 ∷ 0 ∷ 0 ∷ 1 ∷ 200 ∷ []

abbrev places : List Row
places =
    -- "1 setup 21; 2 new target 7; 3 remove 3; 4 request 17; 5 plan 4; 6 short reply 19 and 7 long reply 33; 8 report 3; 9 move 7"
    row (map body_length (1 ∷ 2 ∷ 3 ∷ 4 ∷ 5 ∷ 6 ∷ 7 ∷ 8 ∷ 9 ∷ [])) (21 ∷ 7 ∷ 3 ∷ 17 ∷ 4 ∷ 19 ∷ 33 ∷ 3 ∷ 7 ∷ [])
    ∷ row (map body_length (0 ∷ 10 ∷ 200 ∷ 255 ∷ [])) (0 ∷ 0 ∷ 0 ∷ 0 ∷ [])
    -- 16 with the byte: kind 0, kind 10 whatever follows it, and an unknown kind as the last byte; kinds 1 and 9 are known
    ∷ row (said (0 ∷ []) 0) (16 ∷ 0 ∷ [])
    ∷ row (said (10 ∷ replicate 33 0) 0) (16 ∷ 10 ∷ [])
    ∷ row (said removed 4) (16 ∷ 200 ∷ [])
    ∷ row (said (1 ∷ replicate 21 0) 0) (0 ∷ 1 ∷ 1 ∷ 22 ∷ [])
    ∷ row (said (9 ∷ replicate 7 0) 0) (0 ∷ 9 ∷ 1 ∷ 8 ∷ [])
    -- 17 with the kind: a body one byte short, and none at all; a body that ends with the stream is whole
    ∷ row (said (3 ∷ 0 ∷ 0 ∷ []) 0) (17 ∷ 3 ∷ [])
    ∷ row (said (9 ∷ []) 0) (17 ∷ 9 ∷ [])
    ∷ row (said (3 ∷ 0 ∷ 0 ∷ 1 ∷ []) 0) (0 ∷ 3 ∷ 1 ∷ 4 ∷ [])
    ∷ row (said removed 0) (0 ∷ 3 ∷ 1 ∷ 4 ∷ [])
    -- at the end and after it there is nothing, and no line is the case
    ∷ row (said removed 5) (0 ∷ [])
    ∷ row (said removed 6) (0 ∷ [])
    ∷ row (said [] 0) (0 ∷ [])
    ∷ []

-- ---- bodies
-- L, R, limit, guarantees and ceilings of a setup
abbrev setting : List ℕ → List ℕ
setting s = let x = setup_at s 1 in x.period ∷ x.reach ∷ x.limit ∷ (x.guarantee ++ x.ceiling)

-- unit, address, UF, PC, RR, DI, SD and MA of a request
abbrev asking : List ℕ → List ℕ
asking s = let x = request_at s 1 in x.unit ∷ x.address ∷ x.uf ∷ x.pc ∷ x.rr ∷ x.di ∷ x.sd ∷ x.ma ∷ []

-- entry and tag of a reply, and where its message, its marks and its end stand
abbrev replying : List ℕ → ℕ → List ℕ
replying s kind = let x = reply_at s kind 1 in x.entry ∷ x.tag ∷ x.message ∷ x.marks ∷ x.end ∷ []

-- the first record of case P1: L 20000, R 3000, limit 5, guarantees 2,1, ceilings 3,2, the rest 0
abbrev first : List ℕ
first = 1 ∷ 78 ∷ 32 ∷ 11 ∷ 184 ∷ 5 ∷ 2 ∷ 1 ∷ 0 ∷ 0 ∷ 0 ∷ 0 ∷ 0 ∷ 0 ∷ 3 ∷ 2 ∷ 0 ∷ 0 ∷ 0 ∷ 0 ∷ 0 ∷ 0 ∷ []

-- the fifth: unit 0, address 1, UF 20, RR 16, the other fields zero
abbrev fifth : List ℕ
fifth = 4 ∷ 0 ∷ 0 ∷ 0 ∷ 1 ∷ 20 ∷ 0 ∷ 16 ∷ 0 ∷ 0 ∷ 0 ∷ 0 ∷ 0 ∷ 0 ∷ 0 ∷ 0 ∷ 0 ∷ 0 ∷ []

-- a request with every field its own: unit 7, address 484FDE, UF 21, PC 1, RR 17, DI 3, SD 0A0B, MA 01020304050607
abbrev full : List ℕ
full = 4 ∷ 7 ∷ 0x48 ∷ 0x4F ∷ 0xDE ∷ 21 ∷ 1 ∷ 17 ∷ 3 ∷ 0x0A ∷ 0x0B ∷ 1 ∷ 2 ∷ 3 ∷ 4 ∷ 5 ∷ 6 ∷ 7 ∷ []

-- the second of case P1: target 1 (2000, 2010)
abbrev second : List ℕ
second = let x = edges_at (2 ∷ 0 ∷ 0 ∷ 1 ∷ 7 ∷ 208 ∷ 7 ∷ 218 ∷ []) 1 in x.address ∷ x.near ∷ x.far ∷ []

abbrev bodies : List Row
bodies =
    row (setting first) (20000 ∷ 3000 ∷ 5 ∷ 2 ∷ 1 ∷ 0 ∷ 0 ∷ 0 ∷ 0 ∷ 0 ∷ 0 ∷ 3 ∷ 2 ∷ 0 ∷ 0 ∷ 0 ∷ 0 ∷ 0 ∷ 0 ∷ [])
    ∷ row second (1 ∷ 2000 ∷ 2010 ∷ [])
    ∷ row (asking fifth) (0 ∷ 1 ∷ 20 ∷ 0 ∷ 16 ∷ 0 ∷ 0 ∷ 0 ∷ [])
    ∷ row (asking full) (7 ∷ 0x484FDE ∷ 21 ∷ 1 ∷ 17 ∷ 3 ∷ 0x0A0B ∷ 0x01020304050607 ∷ [])
    -- a report of 4840D6, and a plan with tag 000186A0
    ∷ row (address_at (8 ∷ 0x48 ∷ 0x40 ∷ 0xD6 ∷ []) 1 ∷ []) (0x4840D6 ∷ [])
    ∷ row (tag_at (5 ∷ 0 ∷ 1 ∷ 0x86 ∷ 0xA0 ∷ []) 1 ∷ []) (0x000186A0 ∷ [])
    -- replies to entry 2 with tag 00019087: message and marks are 7 bytes each in a short one, and 14 in a long one
    ∷ row (replying ((6 ∷ 2 ∷ 0 ∷ 1 ∷ 0x90 ∷ 0x87 ∷ []) ++ replicate 14 0) 6) (2 ∷ 0x00019087 ∷ 6 ∷ 13 ∷ 20 ∷ [])
    ∷ row (replying ((7 ∷ 2 ∷ 0 ∷ 1 ∷ 0x90 ∷ 0x87 ∷ []) ++ replicate 28 0) 7) (2 ∷ 0x00019087 ∷ 6 ∷ 20 ∷ 34 ∷ [])
    ∷ []

-- ---- the one claim
pub reader_agrees : Agrees (places ++ bodies)
unfolding checked body_length message_length number_at record_at said_at eight_at
reader_agrees = (
  refl,
  (
    refl,
    (
      refl,
      (
        refl,
        (
          refl,
          (refl, (refl, (refl, (refl, (refl, (refl, (refl, (refl, (refl, (refl, (refl, (refl, (refl, (refl, (refl, (refl, (refl, tt))))))))))))))))),
        ),
      ),
    ),
  ),
)
