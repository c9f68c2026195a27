-- `station::windows::delay` meets its contract: a start within the window is small.
use Rattle.std.proofs.Common.{◌+◌, ◌^◌, ◌<◌, ◌∙◌, arith}
use Rattle.lists.proofs.Signed.{minus_holds, minus_kept}
use Rattle.planner_rules.specs.Exchange.{delay}
use Rattle.station.proofs.Ticks.{before_end}
use Rattle.station.proofs.windows.delay.Goals as goal

pub signed-requires : goal.signed-requires
signed-requires c = (omega (arith, before_end c.args.e c.args.s c.requires), omega arith)

pub returns : goal.returns
returns c = let w = c.wide.ensures in
    let l : c.args.s < 2 ^ 31 = omega (arith, before_end c.args.e c.args.s c.requires) in
    let m : c.args.e.start + delay < 2 ^ 31 = omega arith in (
      minus_kept c.args.s (c.args.e.start + delay) l m c.signed.result (c.signed.ensures ∙ (rw w)),
      minus_holds c.args.s (c.args.e.start + delay) l m,
    )
