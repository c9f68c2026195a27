-- `parity::overlay::overlay_of` meets its contract. The invariant: going on from here, over the bits left, gives the product.
use mathlib.Core.Path.{◌≡◌}
use Prim.Native.Nat.{◌-◌, ◌<◌, ◌^◌}
use Rattle.parity_rules.specs.Overlays.{low_bits, times}
use Rattle.parity.proofs.overlay.overlay_of.Given as goal

abbrev pub invariant-loop-i : goal.invariant-loop-i
invariant-loop-i l = (l.p < 2 ^ (48 - l.i)) × (times l.p (low_bits l.i l.address) ≡ times 0 (low_bits 24 l.address))
