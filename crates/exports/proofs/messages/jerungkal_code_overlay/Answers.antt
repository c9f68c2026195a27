-- `exports::jerungkal_code_overlay` meets its contract: the answer, packed.
use mathlib.Core.Path.{ap, ◌∙◌}
use Rattle.exports.specs.Packed.{packed}
use Rattle.exports.proofs.messages.jerungkal_code_overlay.Goals as goal

pub returns : goal.returns
returns c = c.pack.ensures.said ∙ ap packed c.code_overlay.ensures
