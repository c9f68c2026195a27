-- `put_held` lays the holder, how many messages wait, and the locked codes, each behind a space.
use Rattle.text_rules.proofs.Laid.{put_then}
use Rattle.console_aircraft.proofs.showing.put_held.Goals as goal

pub returns : goal.returns
returns c = (search put_then, search)
