-- `make_passes` makes the nine passes one after the other.
use Prim.Native.Nat.{◌≤◌}
use native.Mathlib.Omega.{arith}
use mathlib.Core.Path.{◌≡◌, refl}
use lib.ListN.{length}
use Rattle.lists.proofs.Front.{length_mapped}
use Rattle.planner.proofs.Passing.{turn_none, turn_room, turn_more, all_passed}
use borrow.Author.Rules.{rules}
use Rattle.planner.proofs.plan.make_passes.Goals as goal
use Rattle.planner.proofs.plan.make_passes.Goals.{After-wide-l}

period-fits : (c : After-wide-l) → c.wide-l.result ≤ 65535
period-fits c = search rules

pub loop-u-init : goal.loop-u-init
loop-u-init c =
    let m : length c.args.asks ≡ 128 = search (rules, length_mapped) in
    turn_none c.wide-l.result c.args.s.guarantee c.args.n c.args.old c.args.asks _ refl (omega (arith, c.requires))

pub pass_over-r-requires : goal.pass_over-r-requires
pass_over-r-requires c =
    let h = c.loop-u.invariant in (
      period-fits search,
      turn_room c.wide-l.result c.args.s.guarantee c.args.n c.args.old c.args.asks c.loop-u.u c.loop-u.r c.loop-u.rows
          c.loop-u.counts c.requires h,
      h.shown,
      h.tallied,
    )

pub loop-u-preserved : goal.loop-u-preserved
loop-u-preserved c =
    turn_more c.wide-l.result c.args.s.guarantee c.args.n c.args.old c.args.asks c.loop-u.u c.alone_in.result c.loop-u.r
    c.pass_over-r.result c.loop-u.rows c.loop-u.counts _ _ c.alone_in.ensures c.loop-u.invariant c.pass_over-r.ensures

pub pass_over-requires : goal.pass_over-requires
pass_over-requires c =
    let h = c.loop-u.invariant in (
      period-fits search,
      turn_room c.wide-l.result c.args.s.guarantee c.args.n c.args.old c.args.asks c.loop-u.u c.loop-u.r c.loop-u.rows
          c.loop-u.counts c.requires h,
      h.shown,
      h.tallied,
    )

pub returns : goal.returns
returns c =
    all_passed c.wide-l.result c.args.s.guarantee c.args.n c.args.old c.args.asks c.args.s c.loop-u.u c.loop-u.r
    c.pass_over.result c.loop-u.rows c.loop-u.counts _ _ c.wide-l.ensures refl (search rules) c.loop-u-test.false c.loop-u.invariant
    c.pass_over.ensures
