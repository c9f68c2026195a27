-- `station::ages::age_after` meets its contract: one more, up to the last.
use Rattle.std.proofs.Common.{arith, le-ltb, lt-ltb}
use Rattle.station.proofs.ages.age_after.Goals as goal

pub returns-then-age-lt65535 : goal.returns-then-age-lt65535
returns-then-age-lt65535 c = simp (lt-ltb c.args.age 65535 (omega arith))

pub returns : goal.returns
returns c = simp (le-ltb c.args.age 65535 (omega arith))
