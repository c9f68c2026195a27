-- `find_row` compares the word with one name after the other.
use mathlib.Core.Path.{refl, sym, ◌∙◌}
use Rattle.console_rules.specs.Names.{table, row_of}
use Rattle.console_lines.proofs.ByName.{row_found, row_other, rows_over}
use Rattle.console_lines.proofs.names.find_row.Goals as goal

pub loop-name-init : goal.loop-name-init
unfolding row_of table
loop-name-init c = (refl, record { are = refl })

pub returns-then-same : goal.returns-then-same
returns-then-same c =
    let i = c.loop-name.invariant in
    row_found _ i.1 _ _ i.0 c.loop-name-test.true (sym c.same.ensures ∙ c.if-same.true)

pub loop-name-preserved : goal.loop-name-preserved
loop-name-preserved c =
    let i = c.loop-name.invariant in
    (row_other _ i.1 _ _ i.0 c.loop-name-test.true (sym c.same.ensures ∙ c.if-same.false), i.1)

pub returns : goal.returns
returns c = rows_over _ _ c.loop-name.invariant.0 c.loop-name-test.false
