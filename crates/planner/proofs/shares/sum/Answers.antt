-- `sum` adds the eight shares.
use Prim.Native.Nat.{◌≤◌}
use native.Mathlib.Omega.{arith}
use mathlib.Core.Path.{◌≡◌, sym, ◌∙◌}
use lib.ListN.{length}
use borrow.Author.Rules.{rules}
use Rattle.std.specs.Prelude.{sum, EachIndex, slice_index}
use Rattle.std.proofs.iter.runs.Sources.{sums}
use Rattle.lists.proofs.Front.{length_mapped}
use Rattle.planner.proofs.Eight.{total_sum, sum_small}
use Rattle.planner.proofs.shares.sum.Goals as goal

pub sum-requires-clause-fits : goal.sum-requires-clause-fits
sum-requires-clause-fits c = search (rules, sums)

pub returns : goal.returns
returns c =
    let s = c.args.shares in
    let n : length s ≡ 8 = search (rules, length_mapped) in
    let e : c.sum.result ≡ sum s = search rules in
    let b : EachIndex s (λ k. slice_index s k ≤ 255) = search rules in
    (e ∙ sym (total_sum s n), omega (arith, e, sum_small s b, n))
