-- `exports::jerungkal_remainder` meets its contract: the answer, packed.
use mathlib.Core.Path.{ap, ◌∙◌}
use Rattle.exports.specs.Packed.{packed}
use Rattle.exports.proofs.messages.jerungkal_remainder.Goals as goal

pub returns : goal.returns
returns c = c.pack.ensures.said ∙ ap packed c.remainder.ensures
