-- `parity::correction::rebuild` meets its contract. The invariant: j bytes of the output and of the places are written.
use Rattle.parity_rules.specs.Messages.{bits}
use Rattle.parity_rules.specs.Correction.{matching, first}
use Rattle.parity_rules.proofs.Written.{Written}
use Rattle.parity.proofs.correction.rebuild.Given as goal

abbrev pub invariant-loop-j : goal.invariant-loop-j
invariant-loop-j l =
    Written (bits l.marks) l.syns l.msg (first (matching l.want (bits l.marks))) l.j l.k l.left l.flips l.out l.places
