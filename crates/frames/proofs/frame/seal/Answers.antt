-- `frames::frame::seal` meets its contract: three zeros, then the remainder with the overlay over it.
use mathlib.Core.Path.{ap, ◌∙◌}
use Prim.Native.Nat.{◌-◌}
use native.Mathlib.Omega.{arith}
use lib.Bits.{xor_lt}
use lib.ListN.{length}
use lib.Seq.{length-sets}
use Rattle.parity_rules.specs.Messages.{seven_or_fourteen}
use Rattle.frames_rules.specs.Bytes.{bytes_of}
use Rattle.frames_rules.proofs.Laying.{at_least_seven, seal_law}
use Rattle.frames.proofs.frame.seal.Goals as goal

pub overflow_sub-at : goal.overflow_sub-at
overflow_sub-at c = omega (arith, at_least_seven (length c.args.out.now) c.requires)

pub put-requires : goal.put-requires
put-requires c =
    (omega arith, omega (arith, at_least_seven (length c.args.out.now) c.requires))

pub remainder_of-requires : goal.remainder_of-requires
remainder_of-requires c =
    let s = c.args.out.now in ap seven_or_fourteen (ap length c.put.ensures ∙ length-sets s (length s - 3) (bytes_of 3 0)) ∙ c.requires

pub overflow_cast-parity : goal.overflow_cast-parity
overflow_cast-parity c =
    omega (arith, xor_lt 32 c.remainder_of.result c.args.overlay (omega arith) (omega arith))

pub put-requires-2 : goal.put-requires-2
put-requires-2 c = (
  omega arith,
  simp (c.put.ensures, length-sets) (omega (arith, at_least_seven (length c.args.out.now) c.requires)),
)

pub returns : goal.returns
returns c =
    seal_law c.args.out.now _ _ c.remainder_of.result c.args.overlay
    (at_least_seven (length c.args.out.now) c.requires) c.put.ensures c.remainder_of.ensures.0
    c.put-2.ensures
