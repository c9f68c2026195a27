-- `parity::division::remainder_of` meets its contract. The invariant: dividing on from here, over the bytes left, gives the message's remainder.
use mathlib.Core.Path.{◌≡◌, refl}
use mathlib.Core.List.{List, [], ◌∷◌}
use Prim.Native.Nat.{ℕ}
use native.Mathlib.Omega.{arith}
use Rattle.lists.proofs.Walk.{walked_more, walked_all}
use Rattle.parity_rules.specs.Messages.{bits, byte_then}
use Rattle.parity_rules.specs.Division.{divide, remainder_of}
use Rattle.parity.proofs.division.remainder_of.Goals as goal

-- some bytes more, and one
abbrev over : ℕ → List ℕ → ℕ
over r m = divide r (bits m)

abbrev one : ℕ → ℕ → ℕ
one r b = divide r (byte_then b [])

step : (r b : ℕ) (m : List ℕ) → over r (b ∷ m) ≡ over (one r b) m
unfolding bits divide
step r b m = refl

pub loop-b-preserved : goal.loop-b-preserved
loop-b-preserved c =
    let l = c.loop-b in
    (omega arith, walked_more over one step _ _ l.b-index l.r l.invariant.1 _ 0 (omega arith) c.byte_in-r.ensures.0)

pub returns : goal.returns
unfolding remainder_of bits divide
returns c = let l = c.loop-b in walked_all over one step _ _ l.b-index l.r l.invariant.1 (omega arith)
