-- `obey` does what the kind asks.
use Rattle.std.proofs.Common.{refl, arith, inl, inr}
use Rattle.stream_rules.specs.Step.{obeyed}
use Rattle.stream.proofs.Steps.{did_of, did_lines, of_kind, of_reply_is, of_none}
use Rattle.stream.proofs.obey.obey.Goals as goal
use Rattle.stream.proofs.obey.obey.Goals.{in_default-via-then-kind-lt1, in_default-via-else-kind-lt1+else-kind-lt8}

pub returns-in-1 : goal.returns-in-1
unfolding obeyed
returns-in-1 c = did_of (of_kind _ _ _ _ c.in-1.is) c.obey_setup.ensures

pub returns-in-2 : goal.returns-in-2
unfolding obeyed
returns-in-2 c = did_of (of_kind _ _ _ _ c.in-2.is) c.obey_new_target.ensures

pub returns-in-3 : goal.returns-in-3
unfolding obeyed
returns-in-3 c = did_of (of_kind _ _ _ _ c.in-3.is) c.obey_remove.ensures

pub returns-in-4 : goal.returns-in-4
unfolding obeyed
returns-in-4 c = did_of (of_kind _ _ _ _ c.in-4.is) c.obey_request.ensures

pub returns-in-5 : goal.returns-in-5
unfolding obeyed
returns-in-5 c = did_of (of_kind _ _ _ _ c.in-5.is) c.obey_plan.ensures

pub returns-in-6 : goal.returns-in-6
returns-in-6 c = did_of (of_reply_is _ _ _ _ (search) (omega arith) (omega arith)) c.obey_reply.ensures

pub returns-in-8 : goal.returns-in-8
unfolding obeyed
returns-in-8 c = did_of (of_kind _ _ _ _ c.in-8.is) c.obey_report.ensures

pub returns-in-9 : goal.returns-in-9
unfolding obeyed
returns-in-9 c = did_of (of_kind _ _ _ _ c.in-9.is) c.obey_move.ensures

pub returns-in_default : goal.returns-in_default
returns-in_default c =
    did_of
    (of_none _ _ _ _ (search)
    (elim c.in_default.branch [
      | in_default-via-then-kind-lt1 w ↦ inl (omega arith)
      | in_default-via-else-kind-lt1+else-kind-lt8 w ↦ inr (omega arith)
    ]))
    (did_lines 36 (omega arith) refl refl (rw c.from.ensures at c.put_answer.ensures))
