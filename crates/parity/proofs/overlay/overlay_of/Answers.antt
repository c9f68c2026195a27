-- `parity::overlay::overlay_of` meets its contract. The invariant: going on from here, over the bits left, gives the product.
use mathlib.Core.Path.{◌≡◌, ap}
use Prim.Native.Nat.{ℕ, ◌/◌, ◌<◌, ◌^◌}
use native.Mathlib.Nat.{lt_of_lt_of_le}
use native.Mathlib.Omega.{arith}
use lib.Pow.{pow_mono}
use Rattle.parity_rules.specs.Overlays.{low_bits, times, overlay_of}
use Rattle.parity_rules.proofs.Product.{turn}
use Rattle.parity.proofs.overlay.overlay_of.Goals as goal
use Rattle.parity.proofs.overlay.overlay_of.Goals.{At-loop-i}

-- the product stays below 2 ^ 48
small : (c : At-loop-i) → c.loop-i.p < 2 ^ 48
small c = lt_of_lt_of_le c.loop-i.invariant.0 (pow_mono {j = 48} (omega arith))

pub overflow_mul-p : goal.overflow_mul-p
overflow_mul-p c = omega (arith, small search)

pub loop-i-preserved : goal.loop-i-preserved
loop-i-preserved c =
    let l = c.loop-i in
    let t = turn c.args.address l.p l.i (omega arith) (omega arith) l.invariant.0 l.invariant.1 in
    (t.0, t.1)

pub overflow_cast-result : goal.overflow_cast-result
overflow_cast-result c = omega (arith, small search)

pub returns : goal.returns
unfolding overlay_of low_bits times
returns c =
    let l = c.loop-i in
    let z : l.i ≡ 0 = omega arith in
    ap (λ (n : ℕ). n / 2 ^ 24) (rw z at l.invariant.1)
