-- `put_report` lays value and age of AC and of ID.
use Rattle.std.proofs.Common.{Option, ◌≡◌, ◌++◌, append_assoc}
use Rattle.station_rules.specs.declared.state.Heard.{Heard}
use Rattle.stream_rules.specs.Lines.{followed, line, value_word, age_word, report_line}
use Rattle.stream.proofs.Lengths.{within_then, within_of}
use Rattle.stream.proofs.report.put_report.Goals as goal

-- the line is AC with its age, then ID with its age
joined : (ac id : Option Heard)
    → (followed (value_word ac) 32 ++ followed (age_word ac) 32) ++ (followed (value_word id) 32 ++ followed (age_word id) 10) ≡ report_line ac id
unfolding line report_line
joined ac id = append_assoc (followed (value_word ac) 32) (followed (age_word ac) 32) (followed (value_word id) 32 ++ followed (age_word id) 10)

pub returns : goal.returns
returns c =
    within_of (joined _ _) (within_then c.put_value-at_id.ensures c.put_value.ensures)
