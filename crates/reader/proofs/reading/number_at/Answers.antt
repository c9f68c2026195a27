-- `number_at` has read i bytes of the number.
use Prim.Native.Nat.{◌+◌}
use mathlib.Core.Path.{◌∙◌}
use native.Mathlib.Omega.{arith}
use borrow.Author.Rules.{rules}
use Rattle.reader.proofs.Numbers.{number_none, number_more, number_below, bytes_below}
use Rattle.reader.proofs.reading.number_at.Goals as goal

pub loop-i-init : goal.loop-i-init
loop-i-init c = (number_none _ _, omega arith)

pub overflow_mul-n : goal.overflow_mul-n
overflow_mul-n c =
    let l = c.loop-i in
    omega (arith, number_below l.n l.i 0 l.invariant.1 (omega arith), bytes_below (l.i + 1) 8 (omega arith))

pub overflow_add-n : goal.overflow_add-n
overflow_add-n c =
    let l = c.loop-i in
    omega (arith, number_below l.n l.i c.from.result l.invariant.1 (search rules), bytes_below (l.i + 1) 8 (omega arith))

pub loop-i-preserved : goal.loop-i-preserved
loop-i-preserved c =
    let l = c.loop-i in
    let a = c.args in (
      number_more a.s.now a.at a.from l.i l.n c.from.result l.invariant.0 (c.from.ensures ∙ c.byte_at.ensures),
      number_below l.n l.i c.from.result l.invariant.1 (search rules),
    )
