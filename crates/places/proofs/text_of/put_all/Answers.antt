-- `put_all` has laid the numbers of the marked bits before place i.
use native.Mathlib.Omega.{arith}
use mathlib.Core.Path.{refl}
use Rattle.text_rules.proofs.Laid.{put_inside, still_from, still_next, still_end}
use Rattle.places.proofs.Laying.{next_place, no_more}
use Rattle.places.proofs.text_of.put_all.Goals as goal

pub loop-i-init : goal.loop-i-init
loop-i-init c = (refl, omega arith, search still_from)

pub loop-i-preserved : goal.loop-i-preserved
loop-i-preserved c =
    let h = c.loop-i.invariant in (
      h.0,
      put_inside c.put_place-end.ensures,
      still_next h.2 (next_place _ c.loop-i.i (omega arith) _ c.bit_at.ensures) c.put_place-end.ensures,
    )

pub returns : goal.returns
returns c =
    let h = c.loop-i.invariant in still_end h.2 (no_more _ c.loop-i.i (omega arith)) h.1
