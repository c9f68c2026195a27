-- Bytes put one by one: what is still to be put decides.
use native.Mathlib.Omega.{arith}
use mathlib.Core.Path.{refl}
use mathlib.Core.List.{List, [], ◌∷◌}
use Prim.Native.Nat.{ℕ}
use Rattle.text_rules.proofs.Laid.{put_out, still_first, put_inside, each_more, each_all}
use Rattle.text.proofs.put.put_bytes.Goals as goal

abbrev one : ℕ → List ℕ
one b = b ∷ []

abbrev all : List ℕ → List ℕ
all t = t

pub returns-then-out-at : goal.returns-then-out-at
returns-then-out-at c = search put_out

pub loop-b-init : goal.loop-b-init
loop-b-init c = (still_first _ _ _, omega arith)

pub loop-b-preserved : goal.loop-b-preserved
loop-b-preserved c = (
  each_more one all c.args.t.now c.loop-b.b-index c.loop-b.invariant.0 (λ b t. refl) 0 (omega arith) c.put_byte-next.ensures,
  search put_inside,
)

pub returns : goal.returns
returns c = each_all one all c.args.t.now c.loop-b.b-index c.loop-b.invariant.0 refl (omega arith) c.loop-b.invariant.1
