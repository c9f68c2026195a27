-- `word_says` goes by the sort, and tells whether the word says something.
use mathlib.Core.Path.{ap, ◌∙◌}
use Rattle.std.specs.Prelude.{is_some}
use Rattle.console_rules.specs.Reasons.{says}
use Rattle.console_plain.proofs.Texts.{sort_says, says_bytes}
use Rattle.console_plain.proofs.words.word_says.Goals as goal

pub returns-in-Number : goal.returns-in-Number
unfolding says
returns-in-Number c = sort_says _ c.in-Number.is (c.is_some.ensures ∙ ap is_some c.number_of.ensures)

pub returns-in-Integer : goal.returns-in-Integer
unfolding says
returns-in-Integer c = sort_says _ c.in-Integer.is (c.is_some-in-Integer.ensures ∙ ap is_some c.integer_of.ensures)

pub returns-in-Bytes : goal.returns-in-Bytes
unfolding says
returns-in-Bytes c = sort_says _ c.in-Bytes.is (c.is_some-in-Bytes.ensures ∙ says_bytes _ c.hex_bytes.ensures)
