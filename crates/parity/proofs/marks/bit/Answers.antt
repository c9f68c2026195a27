-- `parity::marks::bit` meets its contract: the bit is a digit of its byte.
use Rattle.parity_rules.proofs.Bits.{bit_at}
use Rattle.parity.proofs.marks.bit.Goals as goal

pub returns : goal.returns
returns c = bit_at c.args.s.now c.args.i c.requires
