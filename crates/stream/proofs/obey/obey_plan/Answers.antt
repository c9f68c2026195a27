-- `obey_plan` plans with the tag of the body, and lays the answer and the entries.
use Rattle.std.proofs.Common.{refl, ap, ◌∙◌, arith}
use Rattle.station_rules.specs.Planning.{next_plan}
use Rattle.stream_rules.specs.Step.{planned_to}
use Rattle.stream.proofs.Lengths.{within_then}
use Rattle.stream.proofs.Steps.{did_of, did_lines}
use Rattle.stream.proofs.obey.obey_plan.Goals as goal

pub returns : goal.returns
returns c =
    did_of
    (ap (planned_to _) (c.plan_period.ensures ∙ ap (next_plan _) c.tag_at.ensures))
    (did_lines 9252 (omega arith) refl refl (within_then c.put_answer-first.ensures c.put_entries.ensures))
