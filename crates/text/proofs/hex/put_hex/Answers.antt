-- Bytes put one by one as two digits: what is still to be put decides.
use native.Mathlib.Omega.{arith}
use mathlib.Core.Path.{refl}
use Rattle.text_rules.specs.Hex.{hex_in, hex_of}
use Rattle.text_rules.proofs.Laid.{put_out, still_first, put_inside, each_more, each_all}
use Rattle.text.proofs.hex.put_hex.Goals as goal

pub returns-then-out-at : goal.returns-then-out-at
returns-then-out-at c = search put_out

pub loop-b-init : goal.loop-b-init
loop-b-init c = (still_first _ _ _, omega arith)

pub loop-b-preserved : goal.loop-b-preserved
unfolding hex_of
loop-b-preserved c = (
  each_more (hex_in 2) hex_of c.args.bytes.now c.loop-b.b-index c.loop-b.invariant.0 (λ b t. refl) 0 (omega arith) c.put_digits-next.ensures,
  search put_inside,
)

pub returns : goal.returns
unfolding hex_of
returns c = each_all (hex_in 2) hex_of c.args.bytes.now c.loop-b.b-index c.loop-b.invariant.0 refl (omega arith) c.loop-b.invariant.1
