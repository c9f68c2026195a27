-- `put_ac` reads one number with its sign, and lays the answer for it.
use mathlib.Core.Path.{◌∙◌}
use mir.Syntax.{w32}
use mir.ValLaws.{to_z-of_z}
use Rattle.console_plain.proofs.ByWords.{ac_line}
use borrow.Author.Rules.{rules}
use Rattle.console_plain.proofs.feet.put_ac.Goals as goal

pub returns : goal.returns
returns c =
    ac_line _ c.put_written.ensures c.write.ensures (to_z-of_z w32 _ (search rules) ∙ c.integer_at.ensures)
