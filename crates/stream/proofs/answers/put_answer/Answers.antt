-- `put_answer` lays three numbers.
use Rattle.stream_rules.specs.Lines.{line, answer_line}
use Rattle.stream.proofs.Lengths.{within_then}
use Rattle.stream.proofs.answers.put_answer.Goals as goal

pub returns : goal.returns
unfolding line answer_line
returns c =
    within_then c.put_number-at_kind.ensures
    (within_then c.put_number-at_answer.ensures c.put_number.ensures)
