-- `pass_over` is one pass over what waits.
use Prim.Native.Nat.{◌≤◌, ◌<◌}
use native.Mathlib.Omega.{arith}
use mathlib.Core.Path.{sym, ◌∙◌}
use lib.ListN.{length, length-set}
use Rattle.lists.proofs.Front.{length_mapped}
use Rattle.planner_rules.specs.declared.plan.Planned.{Planned}
use Rattle.planner.proofs.Rows.{shown_placed}
use Rattle.planner.proofs.Passing.{pass_start, pass_small, pass_limit, pass_stay, pass_at, pass_end}
use borrow.Author.Rules.{rules}
use Rattle.planner.proofs.plan.pass_over.Goals as goal
use Rattle.planner.proofs.plan.pass_over.Goals.{At-loop-i, in-Some, in-None}

-- ---- places of the code: the slots at the loop's test, and the test from what follows it
abbrev slots : At-loop-i → Planned
slots l = record { placed = l.loop-i.placed; entries = l.loop-i.entries; waiting = l.loop-i.waiting; asks = l.loop-i.asks }

pub loop-i-init : goal.loop-i-init
loop-i-init c = (
  pass_start c.args.l c.args.limits c.args.b _ c.requires.3 c.requires.1 (search (rules, length_mapped)) (search (rules, length_mapped)),
  search rules,
  search (rules, length_mapped),
  c.requires.2,
)

pub loop-i-preserved-then-share : goal.loop-i-preserved-then-share
loop-i-preserved-then-share c = (
  pass_limit c.args.l c.args.limits c.args.b c.loop-i.i c.loop-i.counts (slots search) c.loop-i.invariant.0 _ c.loop-i-test.true _ _
      c.loop-i.invariant.1 c.share.ensures.0 c.share-in-loop-i.ensures.0 c.if-share.true,
  c.loop-i.invariant.1,
  c.loop-i.invariant.2,
  c.loop-i.invariant.3,
)

pub one_more-requires : goal.one_more-requires
one_more-requires c =
    (c.loop-i.invariant.0.tallied.eight, pass_small c.args.l c.args.limits c.args.b c.loop-i.i c.loop-i.counts (slots search) c.loop-i.invariant.0 _)

pub overflow_add-placed : goal.overflow_add-placed
overflow_add-placed c =
    let h = c.loop-i.invariant.0 in
    record { fits = omega (arith, h.sum, h.upto, h.room) }

pub loop-i-preserved : goal.loop-i-preserved
loop-i-preserved c =
    let h = c.loop-i.invariant.0 in
    let below : c.loop-i.placed < 128 = omega (arith, h.sum, h.room, c.loop-i-test.true) in
    let inside : c.loop-i.placed < length c.loop-i.entries = omega (arith, c.loop-i.invariant.2) in
    let all : c.loop-i.placed ≤ length c.loop-i.entries = omega (arith, inside) in
    elim c.match-first_fit.branch [
      | in-Some w ↦ rw (w.rows-is, w.counts-is, w.placed-is, w.entries-is, w.waiting-is, w.asks-is) (
        pass_at c.args.l c.args.limits c.args.b c.loop-i.i c.loop-i.counts (slots search) h _ c.loop-i-test.true _ _ c.loop-i.invariant.1
            c.share.ensures.0 c.share-in-loop-i.ensures.0 c.if-share.false w.in-Some.t w.entry_at.result
            w.one_more.new.counts w.entry_at.ensures w.one_more.ensures
            (sym w.in-Some.is ∙ c.first_fit.ensures c.loop-i.entries all c.loop-i.invariant.3),
        c.loop-i.invariant.1,
        length-set c.loop-i.entries c.loop-i.placed w.entry_at.result ∙ c.loop-i.invariant.2,
        shown_placed c.loop-i.rows w.note.new.rows c.loop-i.placed c.loop-i.entries _ w.entry_at.result w.note.ensures.0
            w.entry_at.ensures w.note.ensures.1 inside below c.loop-i.invariant.3,
      )
      | in-None w ↦ rw (w.rows-is, w.counts-is, w.placed-is, w.entries-is, w.waiting-is, w.asks-is) (
        pass_stay c.args.l c.args.limits c.args.b c.loop-i.i c.loop-i.counts (slots search) h _ c.loop-i-test.true _ _ c.loop-i.invariant.1
            c.share.ensures.0 c.share-in-loop-i.ensures.0 c.if-share.false
            (sym w.in-None.is ∙ c.first_fit.ensures c.loop-i.entries all c.loop-i.invariant.3),
        c.loop-i.invariant.1,
        c.loop-i.invariant.2,
        c.loop-i.invariant.3,
      )
    ]

pub returns : goal.returns
returns c =
    pass_end c.args.l c.args.limits c.args.b c.loop-i.i c.loop-i.rows c.loop-i.counts (slots search) c.loop-i-test.false c.loop-i.invariant.0
    c.loop-i.invariant.3
