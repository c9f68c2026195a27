-- The six low digits: those above them change none.
use Rattle.text_rules.proofs.Laid.{put_of}
use Rattle.text_rules.proofs.HexMade.{hex_low}
use Rattle.text.proofs.hex.put_hex6.Goals as goal

pub returns : goal.returns
returns c = put_of (hex_low c.args.n) c.put_digits.ensures
