-- `frames::formats::length_of` meets its contract, by the long formats.
use mathlib.Core.Path.{sym, ◌∙◌}
use Rattle.frames.proofs.formats.length_of.Goals as goal

pub returns-then-long_format : goal.returns-then-long_format
returns-then-long_format c = simp (sym c.long_format.ensures ∙ c.if-long_format.true)

pub returns : goal.returns
returns c = simp (sym c.long_format.ensures ∙ c.if-long_format.false)
