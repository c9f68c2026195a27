-- `down` turns the sign of a number that is at most 2^31.
use mathlib.Core.Path.{sym, ap, ◌∙◌}
use Rattle.text_rules.specs.Signed.{downward}
use Rattle.text.proofs.Integers.{lowered, none_down}
use Rattle.text.proofs.signed.down.Goals as goal

pub returns-in_err-n : goal.returns-in_err-n
returns-in_err-n c = c.from_residual.ensures ∙ sym (ap downward c.in_err-n.was ∙ none_down)

pub returns : goal.returns
returns c = lowered _ _ c.checked_sub_unsigned.ensures ∙ sym (ap downward c.in_ok-n.was)
