-- Bytes put one by one as two digits: what is still to be put decides.
use Prim.Native.Nat.{◌≤◌}
use lib.ListN.{length, drop}
use Rattle.text_rules.specs.Hex.{hex_of}
use Rattle.text_rules.proofs.Laid.{Still}
use Rattle.text.proofs.hex.put_hex.Given as goal

abbrev pub invariant-loop-b : goal.invariant-loop-b
invariant-loop-b l = Still (hex_of l.bytes) l.at l.initial.out (hex_of (drop l.b-index l.bytes)) l.next l.out × (l.next ≤ length l.out)
