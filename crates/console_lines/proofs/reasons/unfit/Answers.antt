-- `unfit` goes by what belongs at the word.
use Rattle.console_rules.specs.Reasons.{unfit}
use borrow.Author.Rules.{rules}
use Rattle.console_lines.proofs.reasons.unfit.Goals as goal

pub returns-in-Number : goal.returns-in-Number
unfolding unfit
returns-in-Number c = search rules

pub returns-in-Bytes : goal.returns-in-Bytes
unfolding unfit
returns-in-Bytes c = rw c.in-Bytes.is
