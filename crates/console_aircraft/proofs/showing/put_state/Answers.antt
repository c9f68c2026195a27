-- `put_state` shows the aircraft's parts.
use Rattle.console_aircraft.proofs.Texts.{shown_line}
use Rattle.console_aircraft.proofs.showing.put_state.Goals as goal

pub returns : goal.returns
returns c = shown_line _ _ c.unwrap_or_else.ensures c.put_transponder.ensures
