-- What an interrogation is tells what reading it answers, and the other way about; UF and RR of a selective one are such that it draws a format.
use Prim.Native.Nat.{ℕ, ◌≤◌}
use native.Mathlib.Omega.{arith}
use mathlib.Core.Path.{◌≡◌, refl, sym, subst, ◌∙◌}
use mathlib.Core.Bool.{Bool, true, false, not, ◌||◌}
use mathlib.Core.List.{List}
use lib.Dec.{eqb}
use lib.ListN.{length}
use Rattle.std.specs.Prelude.{Result, Ok, Err}
use Rattle.lists.specs.Lists.{pick}
use borrow.Author.Tests.{not-false}
use Rattle.lists.specs.Checks.{checked}
use Rattle.lists.specs.Answers.{refusal}
use Rattle.lists.proofs.Checks.{CameTo, was_refused, was_done, came_to}
use Rattle.lists.proofs.Tests.{and_true}
use Rattle.parity_rules.specs.Messages.{bits, seven_or_fourteen}
use Rattle.parity_rules.specs.Division.{remainder_of}
use Rattle.refusals.specs.declared.refusal.Refusal.{Refusal}
use Rattle.refusals.specs.declared.refusal.Refusal.TheVariants as refused
use Rattle.frames_rules.specs.declared.answers.Up.{Up}
use Rattle.frames_rules.specs.declared.answers.Up.TheVariants as up
use Rattle.frames_rules.specs.Answers.{up_said}
use Rattle.frames_rules.specs.Fields.{head_of, mid_of}
use Rattle.frames_rules.specs.Formats.{surveillance, length_of, listed}
use Rattle.frames_rules.specs.Reading.{format_of, read_checks, read_as, selective_read, all_call_read, read_up}
use Rattle.frames_rules.specs.Interrogations.{selective_of, all_call_of, unread, up_of}
use Rattle.frames_rules.proofs.Unique.{up_one}

module _ (m : List ℕ) where
  abbrev read : Result Up Refusal
  read = Ok (pick (eqb (format_of m) 11) (all_call_of (head_of m) (remainder_of (bits m))) (selective_of (head_of m) (mid_of m) (remainder_of (bits m))))

  -- what reading it answers
  pub up_said_is : up_said (up_of m) ≡ read_up m
  unfolding checked up_of read_as selective_read all_call_read
  up_said_is = go (not (seven_or_fourteen (length m))) (not (listed (format_of m) (length m))) (eqb (format_of m) 11)
    where
      all_call_law : Up
      all_call_law = all_call_of (head_of m) (remainder_of (bits m))

      selective : Up
      selective = selective_of (head_of m) (mid_of m) (remainder_of (bits m))

      go : (x y z : Bool)
          → up_said (pick x (Err refused.Length) (pick y (Err refused.Format) (Ok (pick z all_call_law selective))))
          ≡ pick x (refusal 1) (pick y (refusal 14) (pick z (up_said (Ok all_call_law)) (up_said (Ok selective))))
      go true y z = refl
      go false true z = refl
      go false false true = refl
      go false false false = refl

  pub up_is : (u : Result Up Refusal) → up_said u ≡ read_up m → u ≡ up_of m
  up_is u e = up_one u (up_of m) (e ∙ sym up_said_is)

-- a selective interrogation has a UF that is listed and an RR of 5 bits
abbrev pub InFields : Result Up Refusal → Type 0
InFields (Ok (up.Selective uf pc rr di sd ma r)) = (surveillance uf ≡ true) × (rr ≤ 31)
InFields (Ok (up.AllCall pr ic cl r)) = Unit {0}
InFields (Err r) = Unit {0}

pub in_fields : (m : List ℕ) → InFields (up_of m)
unfolding up_of
in_fields m = go (up_of m) (came_to unread (read m) (read_checks m) refl)
  where
    by_format : (z : Bool) → eqb (format_of m) 11 ≡ z → eqb (format_of m) 11 || surveillance (format_of m) ≡ true
        → InFields (Ok (pick z (all_call_of (head_of m) (remainder_of (bits m))) (selective_of (head_of m) (mid_of m) (remainder_of (bits m)))))
    by_format true q l = tt
    by_format false q l = (rw q at l, omega arith)

    go : (u : Result Up Refusal) → CameTo (read_checks m) unread (read m) u → InFields u
    go u (was_refused c z e g w) = subst InFields (sym w) tt
    go u (was_done p g w) =
        subst InFields (sym w)
        (by_format (eqb (format_of m) 11) refl
        (and_true (eqb (length m) (length_of (format_of m))) (eqb (format_of m) 11 || surveillance (format_of m)) (not-false _ (p.off 14))).1)
