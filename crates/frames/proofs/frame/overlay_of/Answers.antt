-- `frames::frame::overlay_of` meets its contract: the number is the only answer that comes.
use Rattle.parity_rules.proofs.Laws.{uplink_is}
use Rattle.frames_rules.proofs.Told.{the_value, no_refusal}
use Rattle.frames.proofs.frame.overlay_of.Goals as goal

pub unwrap-requires : goal.unwrap-requires
unwrap-requires c = no_refusal _ _ (uplink_is _ c.args.address c.requires c.uplink_overlay.ensures)

pub returns : goal.returns
returns c = the_value _ _ _ c.unwrap.ensures (uplink_is _ c.args.address c.requires c.uplink_overlay.ensures)
