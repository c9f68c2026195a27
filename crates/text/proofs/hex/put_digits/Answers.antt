-- The digits that the kit makes, put in upper case.
use Rattle.text_rules.proofs.Laid.{put_of}
use Rattle.text.proofs.Kit.{hex_of_kit}
use Rattle.text.proofs.hex.put_digits.Goals as goal

pub returns : goal.returns
returns c = put_of (hex_of_kit _ _ _ _ c.requires c.hex-k.ensures.len c.hex-k.ensures.digits) c.put_upper.ensures
