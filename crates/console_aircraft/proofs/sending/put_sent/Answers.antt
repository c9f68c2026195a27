-- `put_sent` lays 0 and the reply.
use Rattle.text_rules.proofs.Laid.{put_then}
use Rattle.console_rules.specs.Texts.{done_text}
use Rattle.console_rules.proofs.ShortAircraft.{sent_fits}
use Rattle.console_aircraft.proofs.sending.put_sent.Goals as goal

pub returns : goal.returns
unfolding done_text
returns c = record { text_put = search put_then; short = sent_fits _ c.put_reply-end.ensures.1 }
