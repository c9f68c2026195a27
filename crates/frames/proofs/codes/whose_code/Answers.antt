-- `frames::codes::whose_code` meets its contract: own, then the matching II test by test.
use mathlib.Core.Path.{sym, ◌∙◌}
use native.Mathlib.Nat.{zero-add}
use borrow.Author.Tests.{eq-eqb, ne_eqb}
use Rattle.frames_rules.specs.Codes.{whose}
use Rattle.frames.proofs.codes.whose_code.Goals as goal

pub returns-then-remainder-code_overlay : goal.returns-then-remainder-code_overlay
unfolding whose
returns-then-remainder-code_overlay c = simp (← c.code_overlay.ensures, eq-eqb _ _ c.if-remainder-code_overlay.true)

pub returns-then-permit-ne1 : goal.returns-then-permit-ne1
unfolding whose
returns-then-permit-ne1 c = simp (← c.code_overlay.ensures, ne_eqb _ _ c.if-remainder-code_overlay.false, ne_eqb _ _ c.if-permit-ne1.true)

pub returns-then-not-of_si : goal.returns-then-not-of_si
unfolding whose
returns-then-not-of_si c =
    simp (
      ← c.code_overlay.ensures,
      ne_eqb _ _ c.if-remainder-code_overlay.false,
      eq-eqb _ _ c.if-permit-ne1.false,
      sym c.of_si.ensures ∙ c.if-not-of_si.true,
    )

pub returns-then-remainder-ic : goal.returns-then-remainder-ic
unfolding whose
returns-then-remainder-ic c =
    simp (
      zero-add,
      ← c.code_overlay.ensures,
      ne_eqb _ _ c.if-remainder-code_overlay.false,
      eq-eqb _ _ c.if-permit-ne1.false,
      sym c.of_si.ensures ∙ c.if-not-of_si.false,
      ne_eqb _ _ c.if-remainder-ic.true,
    )

pub returns-then-remainder-eq0 : goal.returns-then-remainder-eq0
unfolding whose
returns-then-remainder-eq0 c =
    simp (
      zero-add,
      ← c.code_overlay.ensures,
      ne_eqb _ _ c.if-remainder-code_overlay.false,
      eq-eqb _ _ c.if-permit-ne1.false,
      sym c.of_si.ensures ∙ c.if-not-of_si.false,
      eq-eqb _ _ c.if-remainder-ic.false,
      eq-eqb _ _ c.if-remainder-eq0.true,
    )

pub returns : goal.returns
unfolding whose
returns c =
    simp (
      zero-add,
      ← c.code_overlay.ensures,
      ne_eqb _ _ c.if-remainder-code_overlay.false,
      eq-eqb _ _ c.if-permit-ne1.false,
      sym c.of_si.ensures ∙ c.if-not-of_si.false,
      eq-eqb _ _ c.if-remainder-ic.false,
      ne_eqb _ _ c.if-remainder-eq0.false,
    )
