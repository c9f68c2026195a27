-- `put_step` judges 16 and 17 before the body, and else obeys the record.
use Rattle.std.proofs.Common.{sym}
use Rattle.reader_rules.proofs.Answers.{found_is}
use Rattle.stream.proofs.Steps.{step_end, step_unknown, step_cut, step_whole}
use Rattle.stream.proofs.step.put_step.Goals as goal

pub returns-in-End : goal.returns-in-End
returns-in-End c =
    step_end _ c.args.run.now c.wrapping_add_u32-run.ensures.value (sym (found_is _ _ _ c.in-End.ensures)) c.put_nothing.ensures

pub returns-in-Unknown : goal.returns-in-Unknown
returns-in-Unknown c =
    step_unknown _ c.args.run.now c.wrapping_add_u32-run.ensures.value (sym (found_is _ _ _ c.in-Unknown.ensures))
    (rw c.from.ensures at c.put_answer.ensures)

pub returns-in-Cut : goal.returns-in-Cut
returns-in-Cut c =
    step_cut _ c.args.run.now c.wrapping_add_u32-run.ensures.value (sym (found_is _ _ _ c.in-Cut.ensures))
    (rw c.from-in-Cut.ensures at c.put_answer-in-Cut.ensures)

pub returns-in-Whole : goal.returns-in-Whole
returns-in-Whole c = step_whole _ c.args.run.now c.wrapping_add_u32-run.ensures.value (sym (found_is _ _ _ c.in-Whole.ensures)) c.obey.ensures
