-- `put_value` lays value and age, or two dashes.
use Rattle.stream_rules.specs.Lines.{value_word, age_word}
use Rattle.stream.proofs.Lengths.{within_then}
use Rattle.stream.proofs.report.put_value.Goals as goal

pub returns-in-None : goal.returns-in-None
unfolding value_word age_word
returns-in-None c =
    rw c.in-None.is
    (within_then c.put_dash-at_age.ensures c.put_dash.ensures)

pub returns-in-Some : goal.returns-in-Some
unfolding value_word age_word
returns-in-Some c =
    rw c.in-Some.is
    (within_then c.put_number-at_age.ensures c.put_number.ensures)
