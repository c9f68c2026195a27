-- The digits that the kit makes, put as bytes.
use mathlib.Core.Path.{◌∙◌}
use Rattle.text_rules.proofs.Laid.{put_of}
use Rattle.text.proofs.Kit.{decimal_of_kit}
use Rattle.text.proofs.put.put_decimal.Goals as goal

pub returns : goal.returns
returns c = put_of (c.decimal-k.ensures.digits ∙ decimal_of_kit _ _ c.decimal-k.ensures.len) c.put_bytes.ensures
