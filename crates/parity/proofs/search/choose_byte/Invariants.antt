-- `parity::search::choose_byte` meets its contract. The invariant: t places of the byte are chosen.
use Prim.Native.Nat.{◌*◌}
use lib.ListN.{drop}
use Rattle.parity_rules.specs.Messages.{bits}
use Rattle.parity_rules.specs.Correction.{matching, first}
use Rattle.parity_rules.proofs.Written.{ByteAt}
use Rattle.parity.proofs.search.choose_byte.Given as goal

abbrev pub invariant-loop-t : goal.invariant-loop-t
invariant-loop-t l =
    ByteAt (bits l.marks) l.syns (l.j * 8) (first (matching l.want (drop (l.j * 8) (bits l.marks)))) l.t l.p.mask l.p.taken l.p.k l.p.want
