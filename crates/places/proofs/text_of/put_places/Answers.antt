-- `put_places` lays those of the buffer's front.
use Prim.Native.Nat.{ℕ}
use native.Mathlib.Omega.{arith}
use mathlib.Core.List.{List}
use lib.ListN.{length-take}
use Rattle.text_rules.specs.Put.{numbers_behind}
use Rattle.text_rules.proofs.Laid.{put_as}
use Rattle.parity_rules.specs.Places.{places_in}
use Rattle.places.proofs.Laying.{told_front}
use Rattle.places.proofs.text_of.put_places.Goals as goal

pub slice_bounds-put_all-end : goal.slice_bounds-put_all-end
slice_bounds-put_all-end c = simp length-take (omega (arith, c.live-n.ensures.0))

pub put_all-requires : goal.put_all-requires
put_all-requires c = simp length-take (omega (arith, c.live-n.ensures.1))

pub returns : goal.returns
returns c = put_as (λ (m : List ℕ). numbers_behind (places_in m)) (told_front _ _ c.live-n.ensures.0) c.put_all.ensures
