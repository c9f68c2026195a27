-- Lines of the console beside what they print, computed: the examples of document 01, published frames, and frames by the bit numbers of document 01.
use Prim.Native.String.{String}
use mathlib.Core.Path.{◌≡◌, refl}
use mathlib.Core.List.{[], ◌∷◌}
use Rattle.lists.specs.Lists.{filter}
use Rattle.lists.specs.Checks.{checked}
use Rattle.text_rules.specs.Plain.{plain}
use Rattle.text_rules.specs.Put.{decimal_in, decimal, numbers_behind}
use Rattle.text_rules.specs.Signed.{signed_decimal, upward, downward, integer_of}
use Rattle.text_rules.specs.Line.{blank, grown, parts, full, words_of, same_as}
use Rattle.text_rules.specs.Number.{between, is_digit, all_digits, value_after, number_in}
use Rattle.text_rules.specs.Bases.{hex_after, hex_number, number_of}
use Rattle.text_rules.specs.Hex.{hex_digit, hex_in, hex_of, hex_value, all_hex, pairs, is_hex, bytes_in}
use Rattle.parity_rules.specs.Messages.{bits}
use Rattle.parity_rules.specs.Division.{shift_in, divide, remainder_of, remainder_answer, syndrome}
use Rattle.parity_rules.specs.Overlays.{low_bits, times, overlay_of, uplink_overlay}
use Rattle.parity_rules.specs.Places.{places_from}
use Rattle.parity_rules.specs.Correction.{size_of, subsets, xor_of, matching, flipped, correction}
use Rattle.frames_rules.specs.Fields.{head_of, mid_of, selective_head, all_call_head}
use Rattle.frames_rules.specs.Frames.{front, sealed}
use Rattle.frames_rules.specs.Building.{selective_ranged, all_call_ranged, selective, all_call, building, all_calling}
use Rattle.frames_rules.specs.Reading.{read_as, selective_read, all_call_read, surveillance_read, all_call_reply_read}
use Rattle.frames_rules.specs.Codes.{whose, code_of}
use Rattle.altitude_rules.specs.Code.{eleven, feet_by_25, gray_value, eight, five_hundreds, group, hundreds, feet_by_100, form_of, altitude}
use Rattle.altitude_rules.specs.WayBack.{raised, reaches, code_by_25, code_of_bits, code_by_100, code_at, way_back}
use Rattle.console_rules.specs.FeetLines as feet
use Rattle.console_rules.specs.Texts.{word, number_at, bytes_at, done_text, refusal_text, answer_text}
use Rattle.console_rules.specs.Parity.{reckoned_text, corrected_text, remainder_text, overlay_text, fixed_text, correct_text}
use Rattle.console_rules.specs.Building.{built_text, selective_text, build_text, all_call_text}
use Rattle.console_rules.specs.Frames.{number_text, fields_text, end_text, numbers_text, values_text, read_text, reply_text, interrogation_text, up_text}
use Rattle.console_rules.specs.Frames.{down_text, code_word, whose_text, code_text}
use Rattle.console_rules.specs.Feet.{feet_text, written_text, ac_text}
use Rattle.console_rules.specs.Aircraft.{unmade, flight_said}
use Rattle.console_rules.specs.PlainLines.{plain_text}
use Rattle.console_rules.specs.Station.{station_spoken}
use Rattle.console_rules.specs.Explain.{meanings, meaning_text, explain_text}
use Rattle.console_rules.specs.Names.{table, row_in, row_of}
use Rattle.console_rules.specs.Reasons.{sort_at, says, unfit, fault_behind, fault, by_word, judged, reading, reason_text}
use Rattle.console_rules.specs.Console.{call_told, judged_told, row_told, command_told, comment, words_told, line_told, line_text, begun}

-- what a line prints before any model, both as quoted texts
abbrev Prints : String → String → Type 0
Prints line text = line_text begun (plain line) ≡ plain text

-- ---- the words of a line where a number or bytes belong; one that says neither, or is not there, counts 0 or no bytes
words-read :
    (number_at 1 (words_of (plain "overlay 4294967295")) ≡ 4294967295)
    × (number_at 2 (words_of (plain "send 30 0x1F 200110401E9EB5")) ≡ 31)
    × (number_at 1 (words_of (plain "overlay x")) ≡ 0)
    × (bytes_at 1 (words_of (plain "queue 20466D72D75DA0")) ≡ 0x20 ∷ 0x46 ∷ 0x6D ∷ 0x72 ∷ 0xD7 ∷ 0x5D ∷ 0xA0 ∷ [])
    × (bytes_at 3 (words_of (plain "send 30 0 200110401E9EB5")) ≡ 0x20 ∷ 0x01 ∷ 0x10 ∷ 0x40 ∷ 0x1E ∷ 0x9E ∷ 0xB5 ∷ [])
    × (bytes_at 1 (words_of (plain "queue")) ≡ [])
unfolding word words_of parts full grown blank same_as number_in all_digits value_after bytes_in is_hex all_hex hex_value pairs is_digit between
    number_of hex_number hex_after
words-read = (refl, refl, refl, refl, refl, refl)

-- how a line is read, for every claim below: its words, its row, the reasons not to read it, its numbers and bytes
unfoldable pub Reading : Type 0
unfolding line_told words_told command_told row_told judged_told call_told plain_text flight_said station_spoken comment row_of row_in table word words_of parts
    full grown blank same_as number_of hex_number hex_after number_in all_digits value_after bytes_in is_hex all_hex hex_value pairs is_digit
    between sort_at says unfit fault_behind fault by_word judged reading unmade integer_of upward downward
Reading = Unit {0}

-- ---- parity: published frames, the starred corrections and overlays of document 01, lengths and numbers out of their ranges
parity-lines :
    Prints "remainder 5D484FDEA248F5" "0 000016\n"
    × Prints "remainder A800292DFFBBA9383FFCEB903D01" "0 D9938E\n"
    × Prints "remainder A5A5A5A5A5A5" "1\n"
    × Prints "overlay 2" "0 000003\n"
    × Prints "overlay 8388608" "0 FFFA04\n"
    × Prints "overlay 0000000001" "0 000001\n"
    × Prints "overlay 16777216" "2\n"
    × Prints "correct 8000000200000000000000000002 8000000200000000000000000002 0 5" "0 0000000000000000000000000000 3 1 31 111\n"
    × Prints "correct 8000000200000000000000000002 8000000200000000000000000000 0 5" "12\n"
    × Prints "correct 8000000200000000000000000002 8000000200000000000000000002 0 2" "11\n"
    × Prints "correct 0000000000000000000000000000 0000000000000000000000000002 2 5" "0 0000000000000000000000000002 1 111\n"
    × Prints "correct 0000000000000000000000000000 8000000200000000000000000002 2 5" "0 0000000000000000000000000002 1 111\n"
unfolding Reading filter checked remainder_answer uplink_overlay answer_text done_text refusal_text decimal decimal_in hex_in hex_of hex_digit bits shift_in
    divide
    remainder_of low_bits times overlay_of syndrome size_of subsets xor_of matching flipped correction reckoned_text corrected_text remainder_text overlay_text
    fixed_text correct_text places_from numbers_behind
parity-lines = (refl, refl, refl, refl, refl, refl, refl, refl, refl, refl, refl, refl)

-- ---- interrogations built: the fields by their bit numbers, the address over the uplink; 2 for another UF, 1 for an MA not of seven bytes
building-lines :
    Prints "build 4 1 16 7 4660 00000000000000 4196672" "0 21871234E29B45\n"
    × Prints "build 20 4 17 3 43981 01020304050607 4739038" "0 A48BABCD01020304050607F18EBD\n"
    × Prints "build 11 0 0 0 0 00000000000000 1" "2\n"
    × Prints "build 4 0 0 0 0 000000000000 1" "1\n"
    × Prints "allcall 1 9 2" "0 58CA00005FB57F\n"
    × Prints "allcall 16 0 0" "2\n"
unfolding Reading checked answer_text done_text refusal_text decimal decimal_in hex_in hex_of hex_digit bits shift_in divide remainder_of low_bits times
    overlay_of
    selective_ranged all_call_ranged selective all_call building all_calling head_of mid_of selective_head all_call_head front sealed built_text selective_text
    build_text all_call_text
building-lines = (refl, refl, refl, refl, refl, refl)

-- ---- frames read: those interrogations again, published replies, and whose code a DF 11 carries for an SI station that permits its matching II or not
frame-lines :
    Prints "up 21871234E29B45" "0 4 1 16 7 4660 7FF37D\n"
    × Prints "up A48BABCD01020304050607F18EBD" "0 20 4 17 3 43981 01020304050607 7077CB\n"
    × Prints "up 58CA00005FB57F" "0 11 1 9 2 AAAC07\n"
    × Prints "up C0000000000000" "14\n"
    × Prints "down 20001718029FCD" "0 4 0 0 0 5912 4891A6\n"
    × Prints "down A800292DFFBBA9383FFCEB903D01" "0 21 0 0 1 2349 FFBBA9383FFCEB D9938E\n"
    × Prints "down 5D484FDEA248F5" "0 11 5 4739038 000016\n"
    × Prints "down C80B2DCA34AA21DD821A04CB64D4" "14\n"
    × Prints "code 5D484FDEA248F5 1 6 0" "0 own\n"
    × Prints "code 5D484FDEA248E5 1 6 1" "0 matching\n"
    × Prints "code 5D484FDEA248E5 1 6 0" "0 other\n"
    × Prints "code 5D484FDEA248F5 1 6 2" "2\n"
unfolding Reading checked answer_text done_text refusal_text decimal decimal_in hex_in hex_of hex_digit bits shift_in divide remainder_of head_of mid_of read_as
    selective_read all_call_read surveillance_read all_call_reply_read whose code_of number_text fields_text end_text numbers_text values_text read_text
    reply_text
    interrogation_text up_text down_text code_word whose_text code_text
frame-lines = (refl, refl, refl, refl, refl, refl, refl, refl, refl, refl, refl, refl)

-- ---- altitudes: published codes, none, metric, an illegal pattern, and a code of 14 bits
feet-lines :
    Prints "feet 1024" "0 -1000\n"
    × Prints "feet 260" "0 126700\n"
    × Prints "feet 5912" "0 36000\n"
    × Prints "feet 0" "0 none\n"
    × Prints "feet 64" "0 metric\n"
    × Prints "feet 1" "18\n"
    × Prints "feet 8192" "2\n"
unfolding Reading decimal decimal_in signed_decimal eleven feet_by_25 gray_value eight five_hundreds group hundreds feet_by_100 form_of altitude feet.value_text
    feet.answer_text feet_text
feet-lines = (refl, refl, refl, refl, refl, refl, refl)

-- ---- and back: each form at its edges, one foot off, the ends of the numbers that can be said, and what says none
ac-lines :
    Prints "ac 36000" "0 5912\n"
    × Prints "ac -1000" "0 16\n"
    × Prints "ac -1200" "0 256\n"
    × Prints "ac 50175" "0 8127\n"
    × Prints "ac 50200" "0 4643\n"
    × Prints "ac 126700" "0 260\n"
    × Prints "ac -0" "0 152\n"
    × Prints "ac 0x8CA0" "0 5912\n"
    × Prints "ac 36001" "19\n"
    × Prints "ac -1300" "19\n"
    × Prints "ac 126800" "19\n"
    × Prints "ac -2147483648" "19\n"
    × Prints "ac 0x7FFFFFFF" "19\n"
    × Prints "ac -2147483649" "? word 1 is no number\n"
    × Prints "ac 0x80000000" "? word 1 is no number\n"
    × Prints "ac -0x10" "? word 1 is no number\n"
    × Prints "ac -" "? word 1 is no number\n"
    × Prints "feet -16" "? word 1 is no number\n"
unfolding Reading checked answer_text done_text refusal_text decimal decimal_in hundreds raised reaches code_by_25 code_of_bits code_by_100 code_at way_back
    written_text
    ac_text reason_text
ac-lines = (refl, refl, refl, refl, refl, refl, refl, refl, refl, refl, refl, refl, refl, refl, refl, refl, refl, refl)

-- ---- the numbers of answers: each with its meaning, and one that has none
explained :
    Prints "explain 0" "0 done\n"
    × Prints "explain 1" "0 a message not of 7 or 14 bytes, or a buffer not as long as the message\n"
    × Prints "explain 10" "0 the reply starts outside the entry's limits\n"
    × Prints "explain 0x12" "0 an altitude pattern that the 100 ft code does not have\n"
    × Prints "explain 19" "0 an altitude that has no code\n"
    × Prints "explain 20" "2\n"
unfolding Reading done_text refusal_text decimal decimal_in meanings meaning_text explain_text
explained = (refl, refl, refl, refl, refl, refl)

-- ---- why a line is not read: each reason before the next, and of the words the first at fault; and lines that print nothing
unread-lines :
    Prints "unknown" "? no such line\n"
    × Prints "Remainder 00000000000000" "? no such line\n"
    × Prints "overlay" "? words wanted: 1\n"
    × Prints "overlay 1 2" "? words wanted: 1\n"
    × Prints "build 4 0 0 0 0 00000000000000" "? words wanted: 7\n"
    × Prints "state 1" "? words wanted: 0\n"
    × Prints "send 0 0" "? words wanted: 3\n"
    × Prints "state" "? no aircraft\n"
    × Prints "queue x" "? no aircraft\n"
    × Prints "send 0 0 5808000024E102" "? no aircraft\n"
    × Prints "overlay 1A" "? word 1 is no number\n"
    × Prints "overlay 00000000001" "? word 1 is no number\n"
    × Prints "overlay 0x" "? word 1 is no number\n"
    × Prints "remainder 0" "? word 1 is no bytes\n"
    × Prints "correct 0 0 x x" "? word 1 is no bytes\n"
    × Prints "correct 00 0 x x" "? word 2 is no bytes\n"
    × Prints "correct 00 00 x x" "? word 3 is no number\n"
    × Prints "correct 00 00 0 x" "? word 4 is no number\n"
    × Prints "code 00 0 x" "? words wanted: 4\n"
    × Prints "quit now" "? words wanted: 0\n"
    × Prints "quit" ""
    × Prints "" ""
    × Prints "  # remainder" ""
unfolding Reading decimal decimal_in reason_text
unread-lines =
    (refl, refl, refl, refl, refl, refl, refl, refl, refl, refl, refl, refl, refl, refl, refl, refl, refl, refl, refl, refl, refl, refl, refl)
