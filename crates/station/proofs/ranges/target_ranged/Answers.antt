-- `station::ranges::target_ranged` meets its contract: each range in turn.
use Rattle.std.proofs.Common.{sym, ◌∙◌, le-leb}
use borrow.Author.Tests.{lt-leb}
use Rattle.station_rules.specs.Calls.{target_ranged}
use Rattle.station.proofs.ranges.target_ranged.Goals as goal

pub returns-then-not-is_address : goal.returns-then-not-is_address
unfolding target_ranged
returns-then-not-is_address c = simp (sym c.is_address.ensures ∙ c.if-not-is_address.true)

pub returns-then-near-far : goal.returns-then-near-far
unfolding target_ranged
returns-then-near-far c = simp (sym c.is_address.ensures ∙ c.if-not-is_address.false, le-leb _ _ c.if-near-far.true)

pub returns-else-near-far : goal.returns-else-near-far
unfolding target_ranged
returns-else-near-far c = simp (sym c.is_address.ensures ∙ c.if-not-is_address.false, lt-leb _ _ c.if-near-far.false)
