-- `raise` adds 1300 to the feet, by their size where they are below zero.
use Prim.Native.Nat.{ℕ, ◌^◌, ◌<◌}
use native.Mathlib.Omega.{arith}
use mathlib.Core.Path.{◌≡◌, ◌∙◌}
use lib.IntN.{pos, negsuc}
use mir.Syntax.{w32}
use mir.ValLaws.{to_z-of_z}
use Rattle.lists.proofs.Sizes.{negative, positive, plus_holds, less_holds, less_is, unsigned}
use Rattle.altitude_rules.proofs.WayBack.{raised_none, raised_below, raised_above}
use Rattle.altitude.proofs.way_back.raise.Goals as goal
use Rattle.altitude.proofs.way_back.raise.Goals.{Else-feet-lt0, Then-feet-lt0}

-- the number below zero, or not, and its size
below : (c : Then-feet-lt0) → let a = c.args in (n : ℕ) × (a.feet ≡ negsuc n) × (n < 2 ^ 31)
below c = negative _ c.ranges.feet c.if-feet-lt0.true

above : (c : Else-feet-lt0) → let a = c.args in (n : ℕ) × (a.feet ≡ pos n) × (n < 2 ^ 31)
above c = positive _ c.ranges.feet c.if-feet-lt0.false

pub overflow_add-less : goal.overflow_add-less
overflow_add-less c = let n = below c in plus_holds _ c.ranges.feet n.0 n.1 n.2

pub overflow_sub-less : goal.overflow_sub-less
overflow_sub-less c = let n = below c in less_holds _ c.ranges.feet n.0 n.1 n.2

pub overflow_cast-n : goal.overflow_cast-n
overflow_cast-n c =
    let start = c in
    let n = below c in unsigned _ n.0 (less_is _ start.ranges.feet n.0 n.1 n.2) n.2

pub returns-then-n-ge-FLOOR : goal.returns-then-n-ge-FLOOR
returns-then-n-ge-FLOOR c =
    let start = c in
    let t : Then-feet-lt0 = search in
    let n = below t in
    raised_none _ n.0 n.1 (rw (less_is _ start.ranges.feet n.0 n.1 n.2) at c.if-n-ge-FLOOR.true)

pub returns-then-feet-lt0 : goal.returns-then-feet-lt0
returns-then-feet-lt0 c =
    let start = c in
    let t : Then-feet-lt0 = search in
    let n = below t in
    rw (less_is _ start.ranges.feet n.0 n.1 n.2) (raised_below _ n.0 n.1)

pub overflow_cast-result : goal.overflow_cast-result
overflow_cast-result c =
    let start = c in
    let n = above c in unsigned _ n.0 (to_z-of_z w32 _ start.ranges.feet ∙ n.1) n.2

pub overflow_add-result : goal.overflow_add-result
overflow_add-result c =
    let n = above c in
    rw (to_z-of_z w32 _ c.ranges.feet ∙ n.1) (record { fits = omega (arith, n.2) })

pub returns : goal.returns
returns c =
    let n = above c in
    rw (to_z-of_z w32 _ c.ranges.feet ∙ n.1) (raised_above _ n.0 n.1)
