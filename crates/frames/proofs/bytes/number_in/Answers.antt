-- `frames::bytes::number_in` meets its contract. The invariant: the number so far, followed by the bytes left, is the number.
use mathlib.Core.Path.{◌≡◌, refl}
use Prim.Native.Nat.{ℕ, ◌+◌, ◌*◌}
use native.Mathlib.Omega.{arith}
use lib.ListN.{length}
use Rattle.lists.proofs.Walk.{walked_more, walked_all}
use Rattle.frames_rules.specs.Bytes.{followed}
use Rattle.frames_rules.proofs.Numbers.{byte_on, room}
use Rattle.frames.proofs.bytes.number_in.Goals as goal

abbrev one : ℕ → ℕ → ℕ
one r b = r * 256 + b

pub overflow_mul-r : goal.overflow_mul-r
overflow_mul-r c = omega (arith, room _ _ (omega arith) c.loop-b.invariant.0)

pub overflow_add-r : goal.overflow_add-r
overflow_add-r c = omega (arith, c.type_inv.s c.loop-b.b-index, room _ _ (omega arith) c.loop-b.invariant.0)

pub loop-b-preserved : goal.loop-b-preserved
loop-b-preserved c =
    let l = c.loop-b in (
      byte_on _ _ l.b-index l.invariant.0 (omega (arith, c.type_inv.s l.b-index)),
      walked_more followed one (λ r b t. refl) _ _ l.b-index l.r l.invariant.1 _ 0 (omega arith) refl,
    )

pub returns : goal.returns
returns c =
    let l = c.loop-b in
    let e : l.b-index ≡ length c.args.s.now = omega arith in
    (walked_all followed one (λ r b t. refl) _ _ l.b-index l.r l.invariant.1 (omega arith), rw (← e) l.invariant.0)
