-- Bytes put one by one in upper case: what is still to be put decides.
use Prim.Native.Nat.{◌≤◌}
use mathlib.Core.List.{map}
use lib.ListN.{length, drop}
use Rattle.text_rules.specs.Hex.{upper_of}
use Rattle.text_rules.proofs.Laid.{Still}
use Rattle.text.proofs.hex.put_upper.Given as goal

abbrev pub invariant-loop-b : goal.invariant-loop-b
invariant-loop-b l = Still (map upper_of l.t) l.at l.initial.out (map upper_of (drop l.b-index l.t)) l.next l.out × (l.next ≤ length l.out)
