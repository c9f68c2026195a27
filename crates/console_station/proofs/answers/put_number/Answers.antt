-- `put_number` lays the number, which has eight bits.
use Rattle.std.proofs.Common.{arith}
use Rattle.console_station.proofs.Texts.{speaks_number}
use Rattle.console_station.proofs.answers.put_number.Goals as goal

pub returns : goal.returns
returns c = λ s. speaks_number c.args.n c.put_refusal.ensures (omega arith)
