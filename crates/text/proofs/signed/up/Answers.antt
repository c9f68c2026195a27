-- `up` takes a number below 2^31.
use mathlib.Core.Path.{sym, ap, ◌∙◌}
use Rattle.text_rules.specs.Signed.{upward}
use Rattle.text.proofs.Integers.{raised, none_up}
use Rattle.text.proofs.signed.up.Goals as goal

pub returns-in_err-n : goal.returns-in_err-n
returns-in_err-n c = c.from_residual.ensures ∙ sym (ap upward c.in_err-n.was ∙ none_up)

pub returns : goal.returns
returns c = c.ok.ensures.value ∙ raised _ _ c.try_from.ensures ∙ sym (ap upward c.in_ok-n.was)
