-- `station::waiting::unit_full` meets its contract: the unit's count, then the slots.
use Rattle.std.proofs.Common.{leb, length, ap, le-leb}
use borrow.Author.Tests.{lt-leb}
use Rattle.station_rules.specs.Calls.{unit_full}
use Rattle.station.proofs.waiting.unit_full.Goals as goal

pub returns-then-count_of-ge16 : goal.returns-then-count_of-ge16
unfolding unit_full
returns-then-count_of-ge16 c = simp (← c.count_of.ensures, le-leb _ _ c.if-count_of-ge16.true)

pub returns-else-count_of-ge16 : goal.returns-else-count_of-ge16
unfolding unit_full
returns-else-count_of-ge16 c = simp (← c.count_of.ensures, lt-leb _ _ c.if-count_of-ge16.false) (ap (λ v. leb 128 (length v)) c.requests.ensures.value)
