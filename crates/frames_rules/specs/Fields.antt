-- Fields: document 01's section of that name, with its bit numbers. Building lays values at these fields, and reading takes them from there.
use Rattle.std.specs.Prelude.{ℕ, ◌+◌, ◌-◌, ◌*◌, ◌/◌, ◌%◌, ◌^◌, List, eqb, length, take, drop}
use Rattle.lists.specs.Lists.{pick}
use Rattle.frames_rules.specs.Bytes.{number_of_bytes}

-- bits 1 to 32 of a message, its first four bytes, as one number
unfoldable pub head_of : List ℕ → ℕ
head_of m = number_of_bytes (take 4 m)

-- bits 33 to 88, MA or MB, when the message is long; zero for a short one
unfoldable pub mid_of : List ℕ → ℕ
mid_of m = pick (eqb (length m) 14) (number_of_bytes (take 7 (drop 4 m))) 0

-- a field of the first 32 bits: its first bit and its last, numbered from 1
pub record Field : Type 0 where
  pub first : ℕ
  pub last : ℕ

abbrev pub bits_to : ℕ → ℕ → Field
bits_to a b = record { first = a; last = b }

-- the value that stands at a field
abbrev pub value_at : Field → ℕ → ℕ
value_at f head = head / 2 ^ (32 - f.last) % 2 ^ (f.last + 1 - f.first)

-- a value in_field at a field
abbrev pub in_field : Field → ℕ → ℕ
in_field f v = v * 2 ^ (32 - f.last)

-- ---- "UF 4/5: UF 1-5, PC 6-8, RR 9-13, DI 14-16, SD 17-32"; UF 20/21 alike
abbrev pub at_uf : Field
at_uf = bits_to 1 5

abbrev pub at_pc : Field
at_pc = bits_to 6 8

abbrev pub at_rr : Field
at_rr = bits_to 9 13

abbrev pub at_di : Field
at_di = bits_to 14 16

abbrev pub at_sd : Field
at_sd = bits_to 17 32

unfoldable pub selective_head : ℕ → ℕ → ℕ → ℕ → ℕ → ℕ
selective_head uf pc rr di sd = in_field at_uf uf + in_field at_pc pc + in_field at_rr rr + in_field at_di di + in_field at_sd sd

-- ---- "UF 11: UF 1-5, PR 6-9, IC 10-13, CL 14-16, zeros 17-32"
abbrev pub at_pr : Field
at_pr = bits_to 6 9

abbrev pub at_ic : Field
at_ic = bits_to 10 13

abbrev pub at_cl : Field
at_cl = bits_to 14 16

unfoldable pub all_call_head : ℕ → ℕ → ℕ → ℕ
all_call_head pr ic cl = in_field at_uf 11 + in_field at_pr pr + in_field at_ic ic + in_field at_cl cl

-- ---- "DF 4/5/20/21: DF 1-5, FS 6-8, DR 9-13, UM 14-19, AC or ID 20-32"
abbrev pub at_df : Field
at_df = bits_to 1 5

abbrev pub at_fs : Field
at_fs = bits_to 6 8

abbrev pub at_dr : Field
at_dr = bits_to 9 13

abbrev pub at_um : Field
at_um = bits_to 14 19

abbrev pub at_ac_or_id : Field
at_ac_or_id = bits_to 20 32

unfoldable pub reply_head : ℕ → ℕ → ℕ → ℕ → ℕ → ℕ
reply_head df fs dr um value = in_field at_df df + in_field at_fs fs + in_field at_dr dr + in_field at_um um + in_field at_ac_or_id value

-- ---- "DF 11: CA 6-8, address 9-32"
abbrev pub at_ca : Field
at_ca = bits_to 6 8

abbrev pub at_address : Field
at_address = bits_to 9 32

unfoldable pub all_call_reply_head : ℕ → ℕ → ℕ
all_call_reply_head ca address = in_field at_df 11 + in_field at_ca ca + in_field at_address address
