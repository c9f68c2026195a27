-- A minus sign, and the number after it.
use Rattle.text_rules.proofs.Laid.{put_then}
use Rattle.text.proofs.put.put_minus.Goals as goal

pub returns : goal.returns
returns c = put_then c.put_byte-next.ensures c.put_decimal.ensures
