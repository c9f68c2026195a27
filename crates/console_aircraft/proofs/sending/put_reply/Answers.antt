-- `put_reply` lays the bytes of the reply, of which there are at most 14.
use native.Mathlib.Omega.{arith}
use Rattle.console_aircraft.proofs.Texts.{reply_none, reply_some}
use Rattle.console_aircraft.proofs.sending.put_reply.Goals as goal

pub returns-in-Some : goal.returns-in-Some
returns-in-Some c = let b = c.bytes.ensures in reply_some c.in-Some.is b.0 b.1 b.2 c.put_hex.ensures

pub returns-in-None : goal.returns-in-None
returns-in-None c = (reply_none c.in-None.is c.put_byte.ensures, rw c.in-None.is (omega arith))
