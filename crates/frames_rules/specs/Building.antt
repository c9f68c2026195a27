-- Building: the checks in their order, and the frame that the buffer then holds.
use Rattle.std.specs.Prelude.{ℕ, Bool, ◌&&◌, ◌||◌, not, List, [], ◌∷◌, eqb, leb, length}
use Rattle.lists.specs.Checks.{Check, check, checked}
use Rattle.parity_rules.specs.Overlays.{overlay_of}
use Rattle.frames_rules.specs.Answers.{Building, holding, not_built}
use Rattle.frames_rules.specs.Bytes.{number_of_bytes}
use Rattle.frames_rules.specs.Fields.{selective_head, all_call_head, reply_head, all_call_reply_head}
use Rattle.frames_rules.specs.Formats.{long_format, surveillance, length_of}
use Rattle.frames_rules.specs.Frames.{framed}
use Rattle.frames_rules.specs.Shared.{code_number}

-- ---- ranges: "address 1 to 16,777,214"
abbrev pub is_address : ℕ → Bool
is_address a = leb 1 a && leb a 16777214

-- "UF of a request 4, 5, 20 or 21, with MA zero for 4 and 5", else of 56 bits; "PC, DI 0 to 7; RR 0 to 31; SD 16 bits"; an address
unfoldable pub selective_ranged : ℕ → ℕ → ℕ → ℕ → ℕ → ℕ → ℕ → Bool
selective_ranged uf pc rr di sd ma address =
    surveillance uf && leb pc 7 && leb rr 31 && leb di 7 && leb sd 65535 && is_address address && (eqb ma 0 || leb ma 0xFFFFFFFFFFFFFF && long_format uf)

-- "IC, PR .. 0 to 15; CL .. 0 to 7"
unfoldable pub all_call_ranged : ℕ → ℕ → ℕ → Bool
all_call_ranged pr ic cl = leb pr 15 && leb ic 15 && leb cl 7

-- "FS 0 to 7; AC and ID 13 bits", DR, UM and MB as their fields have bits, MB zero for 4 and 5
unfoldable pub reply_ranged : ℕ → ℕ → ℕ → ℕ → ℕ → ℕ → ℕ → Bool
reply_ranged df fs dr um value mb address =
    leb fs 7 && leb dr 31 && leb um 63 && leb value 8191 && is_address address && (eqb mb 0 || leb mb 0xFFFFFFFFFFFFFF && long_format df)

-- "CL, FS, CA 0 to 7", IC 0 to 15
unfoldable pub all_call_reply_ranged : ℕ → ℕ → ℕ → ℕ → Bool
all_call_reply_ranged ca address cl ic = leb ca 7 && is_address address && leb cl 7 && leb ic 15

-- ---- interrogations
-- UF 4, 5, 20 or 21: AP is over the address's uplink overlay
unfoldable pub selective : ℕ → ℕ → ℕ → ℕ → ℕ → ℕ → ℕ → List ℕ
selective uf pc rr di sd ma address = framed (length_of uf) (selective_head uf pc rr di sd) ma (overlay_of address)

-- UF 11: "AP over address FFFFFF"
unfoldable pub all_call : ℕ → ℕ → ℕ → List ℕ
all_call pr ic cl = framed 7 (all_call_head pr ic cl) 0 (overlay_of 0xFFFFFF)

-- 2: UF is judged first; 1: the lengths of the output buffer and of MA; 2: all the ranges
unfoldable pub building_checks : ℕ → ℕ → ℕ → ℕ → ℕ → List ℕ → ℕ → List ℕ → List Check
building_checks uf pc rr di sd ma address out =
    check 2 (not (surveillance uf))
    ∷ check 1 (not (eqb (length out) (length_of uf) && eqb (length ma) 7))
    ∷ check 2 (not (selective_ranged uf pc rr di sd (number_of_bytes ma) address))
    ∷ []

unfoldable pub building : ℕ → ℕ → ℕ → ℕ → ℕ → List ℕ → ℕ → List ℕ → Building
unfolding building_checks
building uf pc rr di sd ma address out =
    checked (building_checks uf pc rr di sd ma address out) (not_built out) (holding (selective uf pc rr di sd (number_of_bytes ma) address))

-- 1: the output buffer; 2: the ranges
unfoldable pub all_calling_checks : ℕ → ℕ → ℕ → List ℕ → List Check
all_calling_checks pr ic cl out = check 1 (not (eqb (length out) 7)) ∷ check 2 (not (all_call_ranged pr ic cl)) ∷ []

unfoldable pub all_calling : ℕ → ℕ → ℕ → List ℕ → Building
unfolding all_calling_checks
all_calling pr ic cl out = checked (all_calling_checks pr ic cl out) (not_built out) (holding (all_call pr ic cl))

-- ---- replies
-- DF 4, 5, 20 or 21: "downlink overlay: the address"
unfoldable pub a_reply : ℕ → ℕ → ℕ → ℕ → ℕ → ℕ → ℕ → List ℕ
a_reply df fs dr um value mb address = framed (length_of df) (reply_head df fs dr um value) mb address

-- "for DF 11 the code 16×CL + IC"
unfoldable pub an_all_call_reply : ℕ → ℕ → ℕ → ℕ → List ℕ
an_all_call_reply ca address cl ic = framed 7 (all_call_reply_head ca address) 0 (code_number cl ic)

-- 2: DF is judged first; 1: the output buffer; 2: all the ranges
unfoldable pub replying_checks : ℕ → ℕ → ℕ → ℕ → ℕ → ℕ → ℕ → List ℕ → List Check
replying_checks df fs dr um value mb address out =
    check 2 (not (surveillance df))
    ∷ check 1 (not (eqb (length out) (length_of df)))
    ∷ check 2 (not (reply_ranged df fs dr um value mb address))
    ∷ []

unfoldable pub replying : ℕ → ℕ → ℕ → ℕ → ℕ → ℕ → ℕ → List ℕ → Building
unfolding replying_checks
replying df fs dr um value mb address out =
    checked (replying_checks df fs dr um value mb address out) (not_built out) (holding (a_reply df fs dr um value mb address))

-- 1: the output buffer; 2: the ranges
unfoldable pub all_call_replying_checks : ℕ → ℕ → ℕ → ℕ → List ℕ → List Check
all_call_replying_checks ca address cl ic out = check 1 (not (eqb (length out) 7)) ∷ check 2 (not (all_call_reply_ranged ca address cl ic)) ∷ []

unfoldable pub all_call_replying : ℕ → ℕ → ℕ → ℕ → List ℕ → Building
unfolding all_call_replying_checks
all_call_replying ca address cl ic out = checked (all_call_replying_checks ca address cl ic out) (not_built out) (holding (an_all_call_reply ca address cl ic))
