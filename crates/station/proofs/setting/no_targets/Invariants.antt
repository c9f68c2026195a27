-- `no_targets` gives slots that all hold the same, and keeps them so.
use Rattle.std.proofs.Common.{◌≡◌, replicate}
use Rattle.station.proofs.setting.no_targets.Given as goal

abbrev pub invariant-loop-i : goal.invariant-loop-i
invariant-loop-i l = l.list ≡ replicate 64 l.x
