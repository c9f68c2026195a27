-- `find_row` compares the word with one name after the other.
use mathlib.Core.Path.{◌≡◌}
use lib.ListN.{drop}
use Rattle.console_rules.specs.Names.{table, row_in, row_of}
use Rattle.console_lines.proofs.ByName.{Listed}
use Rattle.console_lines.proofs.names.find_row.Given as goal

-- what the lines behind say is what all of them say, and the lines are those of the definition
abbrev pub invariant-loop-name : goal.invariant-loop-name
invariant-loop-name l = (row_of l.word ≡ row_in l.word (drop l.name-index table)) × Listed l.name-items
