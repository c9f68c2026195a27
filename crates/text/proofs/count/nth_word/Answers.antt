-- The k-th word: one word after the other.
use native.Mathlib.Omega.{arith}
use mathlib.Core.Path.{◌≡◌}
use Rattle.text.proofs.Nth.{come_first, come_next, come_to}
use Rattle.text.proofs.count.nth_word.Goals as goal

pub loop-init : goal.loop-init
loop-init c = search come_first

pub loop-preserved : goal.loop-preserved
loop-preserved c = let l = c.loop in come_next _ _ l.w _ l.invariant c.word-w-in-loop.ensures

pub returns : goal.returns
returns c =
    let e : c.loop.counter ≡ c.args.k = omega arith in come_to _ _ _ (rw e at c.loop.invariant)
