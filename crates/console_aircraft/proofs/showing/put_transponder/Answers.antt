-- `put_transponder` hands on the transponder's parts.
use Rattle.console_rules.specs.Aircraft.{state_text}
use Rattle.console_aircraft.proofs.Texts.{waiting_as_is}
use Rattle.console_aircraft.proofs.showing.put_transponder.Goals as goal

pub returns : goal.returns
unfolding state_text
returns c = search waiting_as_is
