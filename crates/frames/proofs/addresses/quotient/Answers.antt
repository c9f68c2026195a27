-- `frames::addresses::quotient` meets its contract. The invariant: the coefficients so far, and those of what is left, spell the quotient.
use mathlib.Core.Path.{◌≡◌, refl, ◌∙◌}
use Prim.Native.Nat.{◌-◌}
use native.Mathlib.Omega.{arith}
use Rattle.frames_rules.specs.Addresses.{quotient_bits, quotient_of}
use Rattle.frames_rules.proofs.Quotient.{step_lt, quotient_turn, quotient_grows, quotient_fits}
use Rattle.frames.proofs.addresses.quotient.Goals as goal

pub loop-init : goal.loop-init
unfolding quotient_of
loop-init c = (c.requires, omega arith, refl)

pub overflow_mul-q : goal.overflow_mul-q
overflow_mul-q c = omega (arith, quotient_fits _ _ (omega arith) c.loop.invariant.1)

pub overflow_add-q : goal.overflow_add-q
overflow_add-q c = omega (arith, quotient_fits _ _ (omega arith) c.loop.invariant.1)

pub loop-preserved : goal.loop-preserved
loop-preserved c =
    let l = c.loop in (
      step_lt l.r l.invariant.0,
      quotient_grows _ _ l.counter l.invariant.1 (omega arith),
      quotient_turn l.q l.r l.counter (omega arith) l.invariant.0 ∙ l.invariant.2,
    )

pub returns : goal.returns
unfolding quotient_bits
returns c = let l = c.loop in let e : 24 - l.counter ≡ 0 = omega arith in rw e at l.invariant.2
