-- `put_made` goes by what the making answered.
use Rattle.console_aircraft.proofs.Texts.{made_refused, made_done}
use Rattle.console_aircraft.proofs.making.put_made.Goals as goal

pub returns-in-Ok : goal.returns-in-Ok
returns-in-Ok c = made_done _ _ c.in-Ok.is c.put_number.ensures

pub returns-in-Err : goal.returns-in-Err
returns-in-Err c = made_refused _ _ c.in-Err.is c.from.ensures c.put_number-in-Err.ensures
