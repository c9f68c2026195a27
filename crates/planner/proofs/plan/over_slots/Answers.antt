-- `over_slots` copies the asks over the front.
use native.Mathlib.Omega.{arith}
use mathlib.Core.Path.{◌≡◌}
use lib.ListN.{length, take}
use lib.Seq.{length-take-le}
use Rattle.lists.specs.Lists.{over}
use Rattle.lists.proofs.Front.{length_mapped}
use borrow.Author.Rules.{rules}
use Rattle.planner.proofs.plan.over_slots.Goals as goal

pub returns : goal.returns
unfolding over
returns c =
    let m : length c.args.asks ≡ 128 = search (rules, length_mapped) in
    let n : length (take c.args.n c.args.asks) ≡ c.args.n = length-take-le c.args.n c.args.asks (omega (arith, c.requires)) in
    rw (n, c.copy_from_slice.ensures.after)
