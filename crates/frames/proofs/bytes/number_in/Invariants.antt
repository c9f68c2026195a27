-- `frames::bytes::number_in` meets its contract. The invariant: the number so far, followed by the bytes left, is the number.
use mathlib.Core.Path.{◌≡◌}
use Prim.Native.Nat.{◌*◌, ◌^◌, ◌<◌}
use lib.ListN.{drop}
use Rattle.frames_rules.specs.Bytes.{followed}
use Rattle.frames.proofs.bytes.number_in.Given as goal

abbrev pub invariant-loop-b : goal.invariant-loop-b
invariant-loop-b l = (l.r < 2 ^ (8 * l.b-index)) × (followed l.r (drop l.b-index l.s) ≡ followed 0 l.s)
