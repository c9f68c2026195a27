-- `put_answer` lays the answer's number and its value.
use Rattle.altitude_rules.proofs.Answers.{altitude_is}
use Rattle.feet_lines.proofs.Texts.{answer_put}
use Rattle.feet_lines.proofs.lines.put_answer.Goals as goal

pub returns : goal.returns
returns c = search (answer_put, altitude_is)
