-- `put_number` lays the number, which has eight bits.
use native.Mathlib.Omega.{arith}
use Rattle.console_rules.proofs.ShortAircraft.{refusal_fits}
use Rattle.console_aircraft.proofs.answers.put_number.Goals as goal

pub returns : goal.returns
returns c = record { text_put = c.put_refusal.ensures; short = refusal_fits _ (omega arith) }
