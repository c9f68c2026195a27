-- `next_line` takes what the piece has of the line, and then piece after piece, as long as there are turns.
use native.Mathlib.Omega.{arith}
use mathlib.Core.Path.{refl}
use Rattle.inputs.proofs.First.{held_first, held_next, fed_over, fed_input, fed_turns, fed_line}
use Rattle.text_rules.proofs.Pieces.{held_fits, held_count, held_same}
use borrow.Author.Rules.{rules}
use borrow.Author.Tests.{not-true, not-false}
use Rattle.inputs.proofs.feed.next_line.Goals as goal

pub returns-then-not-f : goal.returns-then-not-f
returns-then-not-f g c =
    record { prefix_len = rw c.ended.ensures (omega arith, refl); fed = fed_over (not-true _ c.if-not-f.true) c.ended.ensures }

pub returns-then-g : goal.returns-then-g
returns-then-g g c =
    record {
      prefix_len = (search held_fits, search held_count);
      fed = fed_line (not-false _ c.if-not-f.false) c.within-got.ensures.value c.loop.invariant.4 c.gather-g.ensures;
    }

pub returns-then-got-eq0 : goal.returns-then-got-eq0
returns-then-got-eq0 g c =
    record {
      prefix_len = rw c.ended-then-got-eq0.ensures (search held_fits, search held_count);
      fed =
          fed_input (not-false _ c.if-not-f.false) c.within-got.ensures.value c.loop.invariant.4 c.gather-g.ensures c.if-g.false
          c.ended-then-got-eq0.ensures;
    }

pub loop-preserved : goal.loop-preserved
loop-preserved g c = (
  search rules,
  (search held_fits, search held_count),
  search rules,
  search held_same,
  held_next c.loop.invariant.4 c.gather-g.ensures c.if-g.false,
)

pub returns : goal.returns
returns g c =
    record {
      prefix_len = rw c.ended-2.ensures (search rules);
      fed = fed_turns (not-false _ c.if-not-f.false) c.within-got.ensures.value c.loop.invariant.4 (omega arith) c.ended-2.ensures;
    }

pub loop-init : goal.loop-init
loop-init g c = (search rules, (omega arith, refl), refl, refl, held_first)

pub shape_of-line-then-g : goal.shape_of-line-then-g
shape_of-line-then-g g c = search held_same

pub shape_of-line-then-got-eq0 : goal.shape_of-line-then-got-eq0
shape_of-line-then-got-eq0 g c = search held_same
