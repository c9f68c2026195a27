-- `obey_report` reports on the address of the body, and lays the answer and, when taken, what was heard.
use Rattle.std.proofs.Common.{◌≡◌, refl, sym, ap, ◌∙◌, arith}
use Rattle.refusals.specs.Refusals.{number_given}
use Rattle.station_rules.specs.Answers.{reported_as}
use Rattle.station_rules.specs.Calls.{reported}
use Rattle.stream_rules.specs.Step.{reported_to}
use Rattle.stream.proofs.Lengths.{within_then}
use Rattle.stream.proofs.Steps.{did_of, did_lines}
use Rattle.stream.proofs.obey.obey_report.Goals as goal

pub returns-in-Ok : goal.returns-in-Ok
returns-in-Ok c =
    let done : c.number_given.result ≡ 0 = c.number_given.ensures ∙ ap number_given c.in-Ok.is in
    did_of
    (ap (reported_to _ _) (ap reported_as (sym c.in-Ok.is) ∙ c.report_on-r.ensures ∙ ap (reported _) c.address_at.ensures))
    (did_lines 84 (omega arith) refl refl
    (within_then (rw done at c.put_answer-first.ensures) c.put_report.ensures))
