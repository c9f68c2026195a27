-- How many words: each takes a byte at least, so the loop ends.
use Rattle.text.proofs.Nth.{count_first, count_next, count_end, goes_on}
use Rattle.text.proofs.count.word_count.Goals as goal

pub loop-w-init : goal.loop-w-init
loop-w-init c = count_first _ _ c.word-w.ensures

pub loop-w-smaller : goal.loop-w-smaller
loop-w-smaller c =
    let l = c.loop-w in goes_on _ l.n l.w l.invariant c.word-w-in-loop-w.result c.loop-w-test.true c.word-w-in-loop-w.ensures

pub loop-w-preserved : goal.loop-w-preserved
loop-w-preserved c =
    let l = c.loop-w in count_next _ l.n l.w l.invariant c.word-w-in-loop-w.result c.loop-w-test.true c.word-w-in-loop-w.ensures

pub returns : goal.returns
returns c = let l = c.loop-w in count_end _ l.n l.w l.invariant c.loop-w-test.false
