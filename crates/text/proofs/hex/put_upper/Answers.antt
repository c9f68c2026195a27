-- Bytes put one by one in upper case: what is still to be put decides.
use native.Mathlib.Omega.{arith}
use mathlib.Core.Path.{refl}
use mathlib.Core.List.{List, [], ◌∷◌, map}
use Prim.Native.Nat.{ℕ}
use Rattle.text_rules.specs.Hex.{upper_of}
use Rattle.text_rules.proofs.Laid.{put_out, still_first, put_inside, put_as, each_more, each_all}
use Rattle.text.proofs.hex.put_upper.Goals as goal

abbrev one : ℕ → List ℕ
one b = upper_of b ∷ []

pub returns-then-out-at : goal.returns-then-out-at
returns-then-out-at c = search put_out

pub loop-b-init : goal.loop-b-init
loop-b-init c = (still_first _ _ _, omega arith)

pub loop-b-preserved : goal.loop-b-preserved
loop-b-preserved c =
    let put = put_as (λ b. b ∷ []) c.upper.ensures c.put_byte-next.ensures in
    (each_more one (map upper_of) c.args.t.now c.loop-b.b-index c.loop-b.invariant.0 (λ b t. refl) 0 (omega arith) put, search put_inside)

pub returns : goal.returns
returns c = each_all one (map upper_of) c.args.t.now c.loop-b.b-index c.loop-b.invariant.0 refl (omega arith) c.loop-b.invariant.1
