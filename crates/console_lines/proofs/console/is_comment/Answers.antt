-- `is_comment` looks at the first byte, where there is one.
use Rattle.console_lines.proofs.Lines.{comment_none, comment_first}
use Rattle.console_lines.proofs.console.is_comment.Goals as goal

pub returns-then-word-eq0 : goal.returns-then-word-eq0
returns-then-word-eq0 c = comment_none c.args.word.now c.if-word-eq0.true

pub returns : goal.returns
returns c = comment_first c.args.word.now c.if-word-eq0.false
