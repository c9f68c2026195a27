-- `parity::search::choose_byte` meets its contract. The invariant: t places of the byte are chosen.
use Rattle.std.proofs.Common.{arith}
use Rattle.parity_rules.proofs.Written.{byte_step}
use Rattle.parity.proofs.search.choose_byte.Goals as goal

pub loop-t-preserved : goal.loop-t-preserved
loop-t-preserved c = byte_step _ _ _ _ _ _ _ _ _ _ _ _ (omega arith) c.loop-t.invariant c.choose-c.ensures
