-- Records of the stream: one byte of kind, then a body whose length the kind fixes, big-endian.
use Rattle.std.specs.Prelude.{ℕ, zero, suc, ◌+◌, ◌-◌, ◌*◌, List, [], ◌∷◌, length, get_or, ◌&&◌, eqb, ltb}
use Rattle.lists.specs.Lists.{pick}
use Rattle.lists.specs.Checks.{Check, check_with, checked}
use Rattle.reader_rules.specs.declared.reading.Found.{Found}
use Rattle.reader_rules.specs.declared.reading.Found.TheVariants.{End, Unknown, Cut, Whole}

-- the length of the body: 1 setup 21; 2 new target 7; 3 remove 3; 4 request 17; 5 plan 4; 6 short reply 19; 7 long reply 33; 8 report 3;
-- 9 move 7; 0 for a kind that is unknown
unfoldable pub body_length : ℕ → ℕ
body_length kind = get_or (0 ∷ 21 ∷ 7 ∷ 3 ∷ 17 ∷ 4 ∷ 19 ∷ 33 ∷ 3 ∷ 7 ∷ []) kind 0

-- the length of the message in a reply, and of its marks: 14 in a long one, kind 7, and 7 in a short one, kind 6
unfoldable pub message_length : ℕ → ℕ
message_length kind = pick (eqb kind 7) 14 7

-- the number of k bytes that stands at a place, the most significant byte first; beyond the end every byte is 0
unfoldable pub number_at : List ℕ → ℕ → ℕ → ℕ
number_at s at zero = 0
number_at s at (suc k) = number_at s at k * 256 + get_or s (at + k) 0

-- the lines of document 01's table that a place before the end can meet, each with the byte of kind beside it, 16: "unknown record kind"; 17: "record cut by
-- the end of the stream"
unfoldable pub place_checks : List ℕ → ℕ → List Check
place_checks s at =
    check_with 16 (get_or s at 0) (ltb at (length s) && eqb (body_length (get_or s at 0)) 0)
    ∷ check_with 17 (get_or s at 0) (ltb at (length s) && ltb (length s - (at + 1)) (body_length (get_or s at 0)))
    ∷ []

-- what stands there by such a line: an unknown kind, or a kind whose body is cut
abbrev pub not_whole : Check → Found
not_whole c = pick (eqb c.number 16) (Unknown c.beside) (Cut c.beside)

-- what stands there else: a record with its kind, its body's place and the place after it; nothing at the end
abbrev pub whole_or_end : List ℕ → ℕ → Found
whole_or_end s at = pick (ltb at (length s)) (Whole (get_or s at 0) (at + 1) (at + 1 + body_length (get_or s at 0))) End

-- what stands at a place
unfoldable pub record_at : List ℕ → ℕ → Found
unfolding place_checks
record_at s at = checked (place_checks s at) not_whole (whole_or_end s at)

-- the place of the next record: after a whole one; at the end of the stream, at an unknown kind and at a cut record there is none, and it stays
unfoldable pub next_place : Found → ℕ → ℕ
next_place End at = at
next_place (Unknown b) at = at
next_place (Cut kind) at = at
next_place (Whole kind body next) at = next
