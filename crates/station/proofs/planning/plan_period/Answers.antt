-- `station::planning::plan_period` meets its contract: the planner's answer, part by part.
use Rattle.station.proofs.Joining.{plan_is}
use Rattle.station.proofs.planning.plan_period.Goals as goal

pub returns : goal.returns
returns c = plan_is c.args.s.now c.args.tag c.join.result c.make_plan-b.result c.put_back.new.w c.all_older.new.t c.join.ensures
    c.make_plan-b.ensures c.put_back.ensures c.all_older.ensures
