-- `parity::marks::bit_at` meets its contract: beyond the end nothing is read, and `bit` reads the rest.
use Rattle.std.proofs.Common.{sym, arith}
use Rattle.std.proofs.Math.ListN.{get_or-eq_default}
use Rattle.parity_rules.specs.Messages.{bits}
use Rattle.parity_rules.proofs.Bits.{bits_length}
use Rattle.parity.proofs.marks.bit_at.Goals as goal

pub returns-then-s-i : goal.returns-then-s-i
returns-then-s-i c =
    let s = c.args.s.now in
    sym (get_or-eq_default (bits s) 0 {n = c.args.i} (omega (arith, bits_length s)))
