-- Bytes put one by one: what is still to be put decides.
use Prim.Native.Nat.{◌≤◌}
use lib.ListN.{length, drop}
use Rattle.text_rules.proofs.Laid.{Still}
use Rattle.text.proofs.put.put_bytes.Given as goal

abbrev pub invariant-loop-b : goal.invariant-loop-b
invariant-loop-b l = Still l.t l.at l.initial.out (drop l.b-index l.t) l.next l.out × (l.next ≤ length l.out)
