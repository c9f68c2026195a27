-- `frames::addresses::quotient` meets its contract. The invariant: the coefficients so far, and those of what is left, spell the quotient.
use mathlib.Core.Path.{◌≡◌}
use Prim.Native.Nat.{◌-◌, ◌^◌, ◌<◌}
use Rattle.lists.specs.Lists.{spelled}
use Rattle.frames_rules.specs.Addresses.{quotient_bits, quotient_of}
use Rattle.frames.proofs.addresses.quotient.Given as goal

abbrev pub invariant-loop : goal.invariant-loop
invariant-loop l = (l.r < 16777216) × (l.q < 2 ^ l.counter) × (spelled l.q (quotient_bits (24 - l.counter) l.r) ≡ quotient_of l.remainder)
