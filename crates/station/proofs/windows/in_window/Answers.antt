-- `station::windows::in_window` meets its contract: both ends of the window.
use Rattle.std.proofs.Common.{◌∙◌}
use borrow.Author.Tests.{lt-leb}
use Rattle.station.proofs.Ticks.{early, not_early}
use Rattle.station.proofs.windows.in_window.Goals as goal

pub returns-then-start-wide : goal.returns-then-start-wide
returns-then-start-wide c =
    not_early c.args.e c.args.s c.wide-start.result
    c.wide.result c.wide-start.ensures c.wide-then-start-wide.result c.wide.ensures c.wide-then-start-wide.ensures
    c.if-start-wide.true

pub returns-else-start-wide : goal.returns-else-start-wide
returns-else-start-wide c =
    lt-leb _ _ c.if-start-wide.false
    ∙ early c.args.e c.args.s c.wide-start.result c.wide.result
    c.wide-start.ensures c.wide.ensures c.if-start-wide.false
