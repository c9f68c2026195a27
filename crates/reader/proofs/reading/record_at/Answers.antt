-- `record_at` goes by the table of its place.
use mathlib.Core.Path.{sym, ap, ◌∙◌}
use Rattle.lists.proofs.Checks.{all, stop, end}
use Rattle.reader_rules.specs.Records.{not_whole, record_at}
use Rattle.reader_rules.specs.Answers.{found_said, said_at}
use Rattle.reader_rules.proofs.Steps.{past_end, whole_there}
use Rattle.reader.proofs.Places.{lines}
use Rattle.reader.proofs.reading.record_at.Goals as goal

pub returns-then-s-at : goal.returns-then-s-at
unfolding record_at said_at
returns-then-s-at c = ap found_said (sym (past_end c.args.s.now _ c.if-s-at.true))

pub returns-then-n-eq0 : goal.returns-then-n-eq0
unfolding record_at said_at
returns-then-n-eq0 c = ap found_said (stop not_whole _ 16 all (search lines depth 12) (search lines))

pub returns-then-s-body : goal.returns-then-s-body
unfolding record_at said_at
returns-then-s-body c = ap found_said (stop not_whole _ 17 all (search lines depth 12) (search lines))

pub returns : goal.returns
unfolding record_at said_at
returns c =
    ap found_said
    (whole_there c.args.s.now _ _ c.if-s-at.false c.body_length-n.ensures
    ∙ end not_whole _ all (search lines depth 12))
