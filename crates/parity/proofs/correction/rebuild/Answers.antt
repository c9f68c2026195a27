-- `parity::correction::rebuild` meets its contract. The invariant: j bytes of the output and of the places are written.
use Rattle.std.proofs.Common.{arith}
use Rattle.parity_rules.proofs.Bits.{bits_length}
use Rattle.parity_rules.proofs.Written.{written_step, written_end}
use Rattle.parity.proofs.correction.rebuild.Goals as goal

pub loop-j-preserved : goal.loop-j-preserved
loop-j-preserved c =
    written_step _ _ _ _ _ _ _ _ _ _ _ _ _ _ (omega arith) (omega arith) (omega arith) c.loop-j.invariant c.choose_byte-p.ensures

pub returns : goal.returns
returns c =
    let w = written_end _ _ _ _ _ _ _ _ _ _ (omega (arith, bits_length c.args.marks.now)) (omega arith) (omega arith) (omega arith) c.loop-j.invariant in
    record { value = w.0; out_after = w.1; places_after = w.2 }
