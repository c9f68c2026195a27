-- Reading: "a frame read alone gives its fields and its remainder".
use Rattle.std.specs.Prelude.{ℕ, List, [], ◌∷◌, not, eqb, length, take, drop}
use Rattle.lists.specs.Lists.{pick}
use Rattle.lists.specs.Checks.{Check, check, checked}
use Rattle.lists.specs.Answers.{Answer, done, refused_by}
use Rattle.parity_rules.specs.Messages.{bits, seven_or_fourteen}
use Rattle.parity_rules.specs.Division.{remainder_of}
use Rattle.frames_rules.specs.Fields.{head_of, mid_of, value_at, at_uf, at_pc, at_rr, at_di, at_sd, at_pr}
use Rattle.frames_rules.specs.Fields.{at_ic, at_cl, at_df, at_fs, at_dr, at_um, at_ac_or_id, at_ca}
use Rattle.frames_rules.specs.Fields.{at_address}
use Rattle.frames_rules.specs.Formats.{listed}

-- the format stands at the same bits of an interrogation and of a reply
abbrev pub format_of : List ℕ → ℕ
format_of m = value_at at_uf (head_of m)

-- 1: a message not of 7 or 14 bytes; 14: "a format not listed here or not of that length"
unfoldable pub read_checks : List ℕ → List Check
read_checks m = check 1 (not (seven_or_fourteen (length m))) ∷ check 14 (not (listed (format_of m) (length m))) ∷ []

-- the fields of format 11 or of the others
unfoldable pub read_as : (ℕ → ℕ → Answer) → (ℕ → ℕ → ℕ → Answer) → List ℕ → Answer
unfolding read_checks
read_as eleven others m =
    checked (read_checks m) refused_by
    (pick (eqb (format_of m) 11) (eleven (head_of m) (remainder_of (bits m))) (others (head_of m) (mid_of m) (remainder_of (bits m))))

-- ---- interrogations
-- the fields of UF 4, 5, 20 or 21, from bits 1 to 32, MA and the remainder
unfoldable pub selective_read : ℕ → ℕ → ℕ → Answer
selective_read head ma remainder =
    done (value_at at_uf head ∷ value_at at_pc head ∷ value_at at_rr head ∷ value_at at_di head ∷ value_at at_sd head ∷ ma ∷ remainder ∷ [])

-- those of UF 11; bits 17 to 32 are "not judged when read"
unfoldable pub all_call_read : ℕ → ℕ → Answer
all_call_read head remainder = done (11 ∷ value_at at_pr head ∷ value_at at_ic head ∷ value_at at_cl head ∷ remainder ∷ [])

-- an interrogation
abbrev pub read_up : List ℕ → Answer
read_up m = read_as all_call_read selective_read m

-- ---- replies
-- the fields of DF 4, 5, 20 or 21, from bits 1 to 32, MB and the remainder
unfoldable pub surveillance_read : ℕ → ℕ → ℕ → Answer
surveillance_read head mb remainder =
    done (value_at at_df head ∷ value_at at_fs head ∷ value_at at_dr head ∷ value_at at_um head ∷ value_at at_ac_or_id head ∷ mb ∷ remainder ∷ [])

-- those of DF 11
unfoldable pub all_call_reply_read : ℕ → ℕ → Answer
all_call_reply_read head remainder = done (11 ∷ value_at at_ca head ∷ value_at at_address head ∷ remainder ∷ [])

-- a reply
abbrev pub read_down : List ℕ → Answer
read_down m = read_as all_call_reply_read surveillance_read m

-- ---- "the seven MB bytes as a part of its own corrected buffer; a buffer not 14 bytes long gives an empty part"
abbrev pub mb_part : List ℕ → List ℕ
mb_part buf = pick (eqb (length buf) 14) (take 7 (drop 4 buf)) []
