-- `line_at` holds the line up to its newline, or nothing at the input's end.
use Rattle.text_rules.proofs.Lines.{held_from, held_none}
use Rattle.text.proofs.line.line_at.Goals as goal

pub returns-then-to-at : goal.returns-then-to-at
returns-then-to-at c =
    let e = c.line_end-to.ensures in held_none c.args.s.now c.args.at e.is c.if-to-at.true

pub returns : goal.returns
returns c =
    let e = c.line_end-to.ensures in held_from c.args.s.now c.args.at e.is c.if-to-at.false
