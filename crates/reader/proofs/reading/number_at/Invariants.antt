-- `number_at` has read i bytes of the number.
use Prim.Native.Nat.{◌<◌, ◌+◌, ◌^◌}
use mathlib.Core.Path.{◌≡◌}
use Rattle.reader_rules.specs.Records.{number_at}
use Rattle.reader.proofs.reading.number_at.Given as goal

abbrev pub invariant-loop-i : goal.invariant-loop-i
invariant-loop-i l = (l.n ≡ number_at l.s (l.at + l.from) l.i) × (l.n < 256 ^ l.i)
