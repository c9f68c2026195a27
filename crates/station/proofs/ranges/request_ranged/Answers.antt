-- `request_ranged` answers whether the unit is in its range and the numbers of the interrogation are.
use Rattle.std.proofs.Common.{le-leb}
use borrow.Author.Tests.{lt-leb}
use Rattle.station_rules.specs.Calls.{request_ranged}
use Rattle.station.proofs.ranges.request_ranged.Goals as goal

pub returns-then-q-le7 : goal.returns-then-q-le7
unfolding request_ranged
returns-then-q-le7 c =
    rw (
      le-leb _ _ c.if-q-le7.true,
      ← c.byte.ensures,
      ← c.byte-then-q-le7.ensures,
      ← c.byte-then-q-le7-2.ensures,
      ← c.byte-then-q-le7-3.ensures,
      ← c.wide.ensures,
    )
    c.selective_ranged.ensures

pub returns-else-q-le7 : goal.returns-else-q-le7
unfolding request_ranged
returns-else-q-le7 c = simp (lt-leb _ _ c.if-q-le7.false)
