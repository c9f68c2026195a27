-- `make_plan` is the plan of document 01, in the caller's slots.
use native.Mathlib.Omega.{arith}
use mathlib.Core.Path.{◌≡◌, ap}
use lib.ListN.{length, length-take}
use Rattle.lists.proofs.Front.{length_mapped}
use Rattle.planner.proofs.Passing.{plan_shown, plan_idle}
use borrow.Author.Rules.{rules}
use Rattle.planner.proofs.plan.make_plan.Goals as goal
use Rattle.planner.proofs.plan.make_plan.Goals.{Start}

slots : (s : Start) → length s.args.w.list ≡ 128
slots s = search (rules, length_mapped)

pub returns-then-n-eq0 : goal.returns-then-n-eq0
returns-then-n-eq0 c =
    plan_idle c.args.s c.live-n.result c.args.w.n c.args.old c.args.w.list c.live-n.ensures.0 (slots search) c.if-n-eq0.true

pub over_slots-asks-requires : goal.over_slots-asks-requires
over_slots-asks-requires c =
    let p = c.make_passes-r in
    let r = p.result in
    let m : length r.asks ≡ 128 = search (rules, length_mapped) in
    omega (arith, p.ensures.waiting, ap length p.ensures.asks, length-take r.waiting r.asks)

pub returns : goal.returns
returns c =
    plan_shown c.args.s c.live-n.result c.args.w.n c.args.old c.args.w.list c.live-n.ensures.0 (slots search) c.make_passes-r.result
    c.over_slots-asks.result c.make_passes-r.ensures c.over_slots-asks.ensures
