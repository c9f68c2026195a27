-- `put_signed` lays the number with its sign: below zero a minus sign and the size.
use mathlib.Core.Path.{◌∙◌}
use mir.Syntax.{w32}
use mir.ValLaws.{to_z-of_z}
use Rattle.text_rules.specs.Signed.{signed_decimal}
use Rattle.lists.proofs.Sizes.{negative, positive, less_is}
use Rattle.text.proofs.signed.put_signed.Goals as goal

pub returns-then-z-lt0 : goal.returns-then-z-lt0
unfolding signed_decimal
returns-then-z-lt0 c =
    let n = negative _ c.ranges.z c.if-z-lt0.true in
    rw n.1 (rw (less_is _ c.ranges.z n.0 n.1 n.2) at c.put_minus.ensures)

pub returns-else-z-lt0 : goal.returns-else-z-lt0
unfolding signed_decimal
returns-else-z-lt0 c =
    let n = positive _ c.ranges.z c.if-z-lt0.false in
    rw n.1 (rw (to_z-of_z w32 _ c.ranges.z ∙ n.1) at c.put_decimal.ensures)
