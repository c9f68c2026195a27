-- A word read digit by digit: what is still to be read decides.
use native.Mathlib.Omega.{arith}
use mathlib.Core.Path.{sym, ◌∙◌}
use Rattle.text.proofs.Values.{number_judged, says_outside, says_end, says_other, says_more, says_big}
use Rattle.text.proofs.numbers.number.Goals as goal

pub returns-then-is_empty : goal.returns-then-is_empty
returns-then-is_empty c = says_outside _ _ (grind arith)

pub loop-b-init : goal.loop-b-init
loop-b-init c = (sym (number_judged _ _ (grind arith) (omega arith)), omega arith)

pub returns-then-not-is_ascii_digit : goal.returns-then-not-is_ascii_digit
returns-then-not-is_ascii_digit c = says_other _ _ _ c.loop-b.invariant.0 c.loop-b-test.true c.if-not-is_ascii_digit.ensures.cases

pub returns-in_err-checked_mul : goal.returns-in_err-checked_mul
returns-in_err-checked_mul c =
    let s = says_big _ _ _ c.loop-b.invariant.0 c.loop-b-test.true c.if-not-is_ascii_digit.ensures.cases in
    c.from_residual.ensures ∙ s (omega (arith, c.in_err-checked_mul.ensures))

pub returns-in_err-value : goal.returns-in_err-value
returns-in_err-value c =
    let s = says_big _ _ _ c.loop-b.invariant.0 c.loop-b-test.true c.if-not-is_ascii_digit.ensures.cases in
    c.from_residual-in_err-value.ensures ∙ s (omega (arith, c.in_err-value.ensures, c.in_ok-checked_mul.ensures))

pub loop-b-preserved : goal.loop-b-preserved
loop-b-preserved c =
    let m = c.in_ok-checked_mul.ensures in
    let e = c.in_ok-value.ensures in
    (rw (e.1, m.1) (says_more _ _ _ c.loop-b.invariant.0 c.loop-b-test.true c.if-not-is_ascii_digit.ensures.cases), omega (arith, m, e))

pub returns : goal.returns
returns c = says_end _ _ _ c.loop-b.invariant.0 c.loop-b-test.false c.loop-b.invariant.1
