-- `frames::codes::code_for` meets its contract: IC, then CL, then SI 0.
use mathlib.Core.Path.{sym, ◌∙◌}
use Prim.Native.Nat.{◌≤◌}
use native.Mathlib.Omega.{arith}
use lib.Dec.{leb}
use borrow.Author.Tests.{leb-true, le-leb, lt-leb, eq-eqb, ne_eqb}
use Rattle.lists.proofs.Tests.{and_true}
use Rattle.frames_rules.specs.Shared.{code_for, code_told}
use Rattle.frames.proofs.codes.code_for.Goals as goal
use Rattle.frames.proofs.codes.code_for.Goals.{Else-not-of_si}

-- CL, once it is judged
at_most : (c : Else-not-of_si) → c.args.cl ≤ 4
at_most c =
    let cl = c.args.cl in
    leb-true cl 4 (and_true (leb 1 cl) (leb cl 4) (sym c.of_si.ensures ∙ c.if-not-of_si.false)).1

pub returns-then-ic-gt15 : goal.returns-then-ic-gt15
unfolding code_for code_told
returns-then-ic-gt15 c = simp (lt-leb _ _ c.if-ic-gt15.true)

pub returns-then-cl-eq0 : goal.returns-then-cl-eq0
unfolding code_for code_told
returns-then-cl-eq0 c = simp (le-leb _ _ c.if-ic-gt15.false, eq-eqb _ _ c.if-cl-eq0.true)

pub returns-then-not-of_si : goal.returns-then-not-of_si
unfolding code_for code_told
returns-then-not-of_si c =
    simp (le-leb _ _ c.if-ic-gt15.false, ne_eqb _ _ c.if-cl-eq0.false, sym c.of_si.ensures ∙ c.if-not-of_si.true)

pub overflow_mul-si : goal.overflow_mul-si
overflow_mul-si c = omega (arith, at_most c)

pub overflow_add-si : goal.overflow_add-si
overflow_add-si c = omega (arith, at_most c)

pub returns-then-si-eq0 : goal.returns-then-si-eq0
unfolding code_for code_told
returns-then-si-eq0 c =
    simp (
      le-leb _ _ c.if-ic-gt15.false,
      ne_eqb _ _ c.if-cl-eq0.false,
      sym c.of_si.ensures ∙ c.if-not-of_si.false,
      eq-eqb _ _ c.if-si-eq0.true,
    )

pub overflow_cast-result-2 : goal.overflow_cast-result-2
overflow_cast-result-2 c = omega (arith, at_most (goal.at.overflow_cast-result-2 c).Else-not-of_si)

pub returns : goal.returns
unfolding code_for code_told
returns c =
    simp (
      le-leb _ _ c.if-ic-gt15.false,
      ne_eqb _ _ c.if-cl-eq0.false,
      sym c.of_si.ensures ∙ c.if-not-of_si.false,
      ne_eqb _ _ c.if-si-eq0.false,
    )
