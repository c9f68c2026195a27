-- `frames::addresses::address_of` meets its contract: the range, then the quotient.
use mathlib.Core.Path.{ap}
use Prim.Native.Nat.{ℕ}
use borrow.Author.Tests.{le-ltb, lt-ltb}
use Rattle.std.specs.Prelude.{Some}
use Rattle.frames_rules.specs.Answers.{address_said}
use Rattle.frames_rules.specs.Addresses.{address_of, address_told}
use Rattle.frames.proofs.addresses.address_of.Goals as goal

pub returns-then-remainder-ge16777216 : goal.returns-then-remainder-ge16777216
unfolding address_of address_told
returns-then-remainder-ge16777216 c = simp (le-ltb _ _ c.if-remainder-ge16777216.true)

pub returns : goal.returns
unfolding address_of address_told
returns c = simp (lt-ltb _ _ c.if-remainder-ge16777216.false) (ap (λ (a : ℕ). address_said (Some a)) c.quotient.ensures)
