-- Worked examples, computed: what the definitions give, and what is meant. Numbers of bytes are those of ASCII.
use Rattle.std.specs.Prelude.{Option, Some, None}
use Prim.Native.Nat.{ℕ}
use native.Mathlib.Omega.{arith}
use mathlib.Core.Path.{◌≡◌, refl}
use mathlib.Core.Bool.{true, false}
use mathlib.Core.List.{List, [], ◌∷◌, map}
use lib.IntN.{ℤ, pos, negsuc}
use lib.ListN.{replicate}
use Rattle.text_rules.specs.Put.{decimal_in, decimal, numbers_behind, laid, Put}
use Rattle.text_rules.specs.Signed.{signed_decimal, upward, downward, integer_of}
use Rattle.text_rules.specs.Line.{blank, in_word, newline, in_line, grown, parts, full, lines_of, words_of, same_as, front, run_end}
use Rattle.text_rules.specs.Line.{line_end, line_after, line_at, line_span, word_at, nth_at, within, NthWord}
use Rattle.text_rules.specs.Number.{between, is_digit, all_digits, value_after, number_in}
use Rattle.text_rules.specs.Hex.{hex_digit, hex_in, hex_of, hex_value, all_hex, pairs, is_hex, bytes_in}
use Rattle.text_rules.specs.Bases.{hex_after, hex_number, number_of}
use Rattle.text_rules.specs.Plain.{plain}

quoted : plain "Az 0#\n" ≡ 65 ∷ 122 ∷ 32 ∷ 48 ∷ 35 ∷ 10 ∷ []
quoted = refl

-- ---- laid

-- one byte, and the place behind it
one_byte : Put (plain "b") 1 (plain "---") (plain "-b-") 2
unfolding laid
one_byte = record { next = refl; text = refl }

-- as far as the buffer goes
cut : Put (plain "abc") 1 (plain "---") (plain "-ab") 3
unfolding laid
cut = record { next = refl; text = refl }

-- ---- made

-- numbers behind a text, in their order
three_behind : numbers_behind (1 ∷ 31 ∷ 111 ∷ []) ≡ plain " 1 31 111"
unfolding numbers_behind decimal decimal_in
three_behind = refl

zero_is_0 : decimal 0 ≡ plain "0"
unfolding decimal decimal_in
zero_is_0 = refl

-- the highest of the 100 ft code
feet : decimal 126700 ≡ plain "126700"
unfolding decimal decimal_in
feet = refl

greatest : decimal 4294967295 ≡ plain "4294967295"
unfolding decimal decimal_in
greatest = refl

-- the lowest of the 100 ft code, and a delay of −1
below_zero : (signed_decimal (negsuc 999) ≡ plain "-1000") × (signed_decimal (negsuc 0) ≡ plain "-1")
unfolding signed_decimal decimal decimal_in
below_zero = (refl, refl)

-- the first bytes of a published frame
frame : hex_of (0x8D ∷ 0x40 ∷ 0x6B ∷ 0x90 ∷ 0x20 ∷ 0x15 ∷ 0xA6 ∷ []) ≡ plain "8D406B902015A6"
unfolding hex_of hex_in hex_digit
frame = refl

-- the generator: its bit above the 24 low ones is left out
six_digits : hex_in 6 0x1FFF409 ≡ plain "FFF409"
unfolding hex_in hex_digit
six_digits = refl

-- ---- lines

-- an empty input has no line, and a newline at the end begins none
lines : (lines_of (plain "a\n\nb") ≡ plain "a" ∷ [] ∷ plain "b" ∷ [])
    × (lines_of (plain "a\n\nb\n") ≡ plain "a" ∷ [] ∷ plain "b" ∷ [])
    × (lines_of [] ≡ [])
unfolding lines_of parts newline grown
lines = (refl, refl, refl)

-- an empty line ends where it begins; behind the input the end is the input's
line_ends : (line_end (plain "ab\n\nc") 0 ≡ 2) × (line_end (plain "ab\n\nc") 3 ≡ 3)
    × (line_end (plain "ab\n\nc") 4 ≡ 5) × (line_end (plain "ab\n\nc") 9 ≡ 5)
unfolding line_end run_end front in_line newline
line_ends = (refl, refl, refl, refl)

lines_at : (line_at (plain "ab\ncd\n") 0 ≡ plain "ab") × (line_at (plain "ab\ncd\n") 3 ≡ plain "cd") × (line_at (plain "ab\ncd\n") 6 ≡ [])
unfolding line_at line_end run_end front in_line newline
lines_at = (refl, refl, refl)

-- a line's span, an empty one among them; behind the input the empty span at its end
line_spans : (line_span (plain "ab\n\nc") 0 ≡ record { from = 0; to = 2 }) × (line_span (plain "ab\n\nc") 3 ≡ record { from = 3; to = 3 })
    × (line_span (plain "ab\n\nc") 4 ≡ record { from = 4; to = 5 }) × (line_span (plain "ab\n\nc") 9 ≡ record { from = 5; to = 5 })
unfolding line_span line_end run_end front in_line newline
line_spans = (refl, refl, refl, refl)

after_lines : (line_after (plain "ab\nc") 2 ≡ 3) × (line_after (plain "ab\nc") 4 ≡ 4)
after_lines = (refl, refl)

-- ---- words

abbrev line : List ℕ
line = plain " a\tbc \r"

words : words_of line ≡ plain "a" ∷ plain "bc" ∷ []
unfolding words_of full parts blank grown
words = refl

words_at : (word_at line 0 ≡ record { from = 1; to = 2 }) × (word_at line 2 ≡ record { from = 3; to = 5 }) × (word_at line 5 ≡ record { from = 7; to = 7 })
unfolding word_at run_end front in_word blank
words_at = (refl, refl, refl)

-- the words are numbered from 0; where there is none, the word is empty
second_word : NthWord line 1 (record { from = 3; to = 5 })
unfolding nth_at word_at run_end front in_word within words_of full parts blank grown
second_word = record { is = refl; text = refl; order = omega arith; fits = omega arith }

no_word : NthWord line 2 (record { from = 7; to = 7 })
unfolding nth_at word_at run_end front in_word within words_of full parts blank grown
no_word = record { is = refl; text = refl; order = omega arith; fits = omega arith }

names : (same_as (plain "up") (plain "up") ≡ true) × (same_as (plain "u") (plain "up") ≡ false)
    × (same_as (plain "ups") (plain "up") ≡ false) × (same_as (plain "Up") (plain "up") ≡ false)
unfolding same_as
names = (refl, refl, refl, refl)

-- ---- numbers

-- leading zeros count as digits
digits : (number_in 9 (plain "000000007") ≡ Some 7) × (number_in 9 (plain "0000000007") ≡ None)
    × (number_in 9 [] ≡ None) × (number_in 9 (plain "7a") ≡ None)
unfolding number_in all_digits is_digit between value_after
digits = (refl, refl, refl, refl)

two_to_the_32 : (number_in 10 (plain "4294967295") ≡ Some 4294967295) × (number_in 10 (plain "4294967296") ≡ None)
unfolding number_in all_digits is_digit between value_after
two_to_the_32 = (refl, refl)

-- decimal without a sign before it, hex behind `0x`, of either case, one to eight digits
in_either_base : (number_of (plain "4294967295") ≡ Some 4294967295) × (number_of (plain "0") ≡ Some 0) × (number_of (plain "0x484fDE") ≡ Some 4739038)
    × (number_of (plain "0x10") ≡ Some 16) × (number_of (plain "0xFFFFFFFF") ≡ Some 4294967295) × (number_of (plain "0x000000001") ≡ None)
    × (number_of (plain "0x") ≡ None) × (number_of (plain "0xG") ≡ None) × (number_of (plain "0X1") ≡ None) × (number_of (plain "FF") ≡ None)
unfolding number_of hex_number hex_after hex_value all_hex same_as number_in all_digits is_digit between value_after
in_either_base = (refl, refl, refl, refl, refl, refl, refl, refl, refl, refl)

-- ---- bytes

-- digits of either case; an odd number of them, or none, say no bytes
bytes : (bytes_in (plain "8d406B") ≡ Some (0x8D ∷ 0x40 ∷ 0x6B ∷ [])) × (bytes_in (plain "8d4") ≡ None)
    × (bytes_in [] ≡ None) × (bytes_in (plain "8G") ≡ None)
unfolding bytes_in is_hex all_hex hex_value is_digit between pairs same_as
bytes = (refl, refl, refl, refl)

-- "-" says none of them
no_bytes : bytes_in (plain "-") ≡ Some []
unfolding bytes_in is_hex all_hex hex_value is_digit between pairs same_as
no_bytes = refl

-- 32 bytes at most
most_bytes : (bytes_in (replicate 64 48) ≡ Some (replicate 32 0)) × (bytes_in (replicate 66 48) ≡ None)
unfolding bytes_in is_hex all_hex hex_value is_digit between pairs same_as
most_bytes = (refl, refl)

-- ---- a number with its sign: to both ends of 32 bits and one beyond, 0 with a sign, hex without one, and what says none
abbrev signs : List (List ℕ) → List (Option ℤ)
signs ws = map integer_of ws

signed-words :
    (signs (plain "36000" ∷ plain "-1200" ∷ plain "-0" ∷ plain "0x8CA0" ∷ [])
    ≡ Some (pos 36000) ∷ Some (negsuc 1199) ∷ Some (pos 0) ∷ Some (pos 36000) ∷ [])
    × (signs (plain "2147483647" ∷ plain "0x7FFFFFFF" ∷ plain "-2147483648" ∷ [])
    ≡ Some (pos 2147483647) ∷ Some (pos 2147483647) ∷ Some (negsuc 2147483647) ∷ [])
    × (signs (plain "2147483648" ∷ plain "0x80000000" ∷ plain "-2147483649" ∷ plain "-00000000001" ∷ []) ≡ replicate 4 None)
    × (signs (plain "-0x10" ∷ plain "-" ∷ plain "--1" ∷ plain "+1" ∷ plain "1-" ∷ [] ∷ []) ≡ replicate 6 None)
unfolding integer_of upward downward number_of hex_number hex_after number_in all_digits value_after is_digit between all_hex hex_value same_as
signed-words = (refl, refl, refl, refl)
