-- `find_fault` looks at one word after the other.
use Rattle.text_rules.specs.Line.{words_of}
use Rattle.console_lines.proofs.Judging.{Behind}
use Rattle.console_lines.proofs.reasons.find_fault.Given as goal

-- what the words behind the k-th say is what all of them say
abbrev pub invariant-loop-k : goal.invariant-loop-k
invariant-loop-k l = Behind l.r (words_of l.line) l.k
