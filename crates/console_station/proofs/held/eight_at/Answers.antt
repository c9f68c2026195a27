-- `eight_at` has read the numbers before place i, each of eight bits.
use Rattle.std.proofs.Common.{◌∙◌, rules}
use Rattle.console_station.proofs.Widths.{reading_more, reading_wide, reading_all}
use Rattle.console_station.proofs.held.eight_at.Goals as goal

pub returns-in_err-out : goal.returns-in_err-out
returns-in_err-out c =
    c.from_residual.ensures ∙ reading_wide _ _ c.loop-i.invariant c.number_at.ensures c.in_err-out.ensures c.loop-i-test.true

pub loop-i-preserved : goal.loop-i-preserved
loop-i-preserved c = reading_more _ _ c.loop-i.invariant c.number_at.ensures c.in_ok-out.ensures

pub returns : goal.returns
returns c = reading_all _ _ c.loop-i.invariant c.loop-i-test.false c.loop-i.auto.i-end (search rules)
