-- `put_shown` lays 0, the time and what the aircraft holds.
use borrow.Author.Rules.{rules}
use Rattle.lists.proofs.Front.{length_mapped}
use Rattle.text_rules.proofs.Laid.{put_then}
use Rattle.console_rules.specs.Texts.{done_text}
use Rattle.console_rules.proofs.ShortAircraft.{shown_fits}
use Rattle.console_aircraft.proofs.showing.put_shown.Goals as goal

pub returns : goal.returns
unfolding done_text
returns c = record { text_put = search put_then; short = shown_fits _ _ _ _ (search rules) (search) (search rules) (search (rules, length_mapped)) }
