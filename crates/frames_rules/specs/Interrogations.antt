-- What an interrogation read alone is, by its cases and with its fields by their names.
use Rattle.std.specs.Prelude.{ℕ, List, eqb, Result, Ok, Err}
use Rattle.lists.specs.Lists.{pick}
use Rattle.lists.specs.Checks.{Check, checked}
use Rattle.parity_rules.specs.Messages.{bits}
use Rattle.parity_rules.specs.Division.{remainder_of}
use Rattle.refusals.specs.declared.refusal.Refusal.{Refusal}
use Rattle.refusals.specs.declared.refusal.Refusal.TheVariants as refusal
use Rattle.frames_rules.specs.declared.answers.Up.{Up}
use Rattle.frames_rules.specs.declared.answers.Up.TheVariants as up
use Rattle.frames_rules.specs.Fields.{head_of, mid_of, value_at, at_uf, at_pc, at_rr, at_di, at_sd, at_pr, at_ic, at_cl}
use Rattle.frames_rules.specs.Reading.{format_of, read_checks}

-- UF 4, 5, 20 or 21, from bits 1 to 32, MA and the remainder
abbrev pub selective_of : ℕ → ℕ → ℕ → Up
selective_of head ma remainder =
    up.Selective (value_at at_uf head) (value_at at_pc head) (value_at at_rr head) (value_at at_di head) (value_at at_sd head) ma remainder

-- UF 11, from bits 1 to 32 and the remainder
abbrev pub all_call_of : ℕ → ℕ → Up
all_call_of head remainder = up.AllCall (value_at at_pr head) (value_at at_ic head) (value_at at_cl head) remainder

-- a frame that cannot be read: of another length, or of another format
abbrev pub unread : Check → Result Up Refusal
unread c = Err (pick (eqb c.number 1) refusal.Length refusal.Format)

-- what a frame is: one that cannot be read, an all-call or a selective interrogation
unfoldable pub up_of : List ℕ → Result Up Refusal
unfolding read_checks
up_of m =
    checked (read_checks m) unread
    (Ok (pick (eqb (format_of m) 11) (all_call_of (head_of m) (remainder_of (bits m))) (selective_of (head_of m) (mid_of m) (remainder_of (bits m)))))
