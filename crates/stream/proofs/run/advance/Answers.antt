-- `advance` takes one step, which counts the record.
use Rattle.stream.proofs.Steps.{stay_ended, go_on}
use Rattle.stream.proofs.run.advance.Goals as goal

pub returns-then-not-run : goal.returns-then-not-run
returns-then-not-run c = stay_ended _ c.args.run.now c.if-not-run.true c.put_nothing.ensures

pub returns : goal.returns
returns c = go_on _ c.args.run.now c.if-not-run.false c.put_step.ensures
