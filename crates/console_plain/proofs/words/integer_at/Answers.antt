-- `integer_at` reads the word with that number.
use mathlib.Core.Path.{◌∙◌}
use borrow.Author.Rules.{rules}
use mir.Syntax.{w32}
use mir.ValLaws.{to_z-of_z}
use Rattle.console_plain.proofs.Texts.{the_integer}
use Rattle.console_plain.proofs.words.integer_at.Goals as goal

pub returns : goal.returns
returns c = to_z-of_z w32 _ (search rules) ∙ the_integer c.nth_word-w.ensures c.integer_of.ensures c.unwrap_or.ensures
