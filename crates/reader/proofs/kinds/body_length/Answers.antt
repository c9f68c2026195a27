-- `body_length` reads the definition's own list.
use mathlib.Core.Path.{refl}
use Rattle.reader_rules.specs.Records.{body_length}
use Rattle.reader.proofs.Numbers.{body_none}
use Rattle.reader.proofs.kinds.body_length.Goals as goal

pub returns-then-kind-gt9 : goal.returns-then-kind-gt9
returns-then-kind-gt9 c = body_none _ c.if-kind-gt9.true

pub returns : goal.returns
unfolding body_length
returns c = refl
