-- `in_order` looks at the eight pairs.
use Prim.Native.Nat.{◌≤◌}
use mathlib.Core.Path.{◌≡◌}
use lib.ListN.{length}
use borrow.Author.Tests.{leb-true, le-leb}
use borrow.Author.Rules.{rules}
use Rattle.std.specs.Prelude.{◌↔◌, IsTrue, EachIndex, slice_index}
use Rattle.lists.proofs.Front.{length_mapped}
use Rattle.planner_rules.specs.Shares.{share, ordered}
use Rattle.planner.proofs.Eight.{every_one}
use Rattle.planner.proofs.shares.in_order.Goals as goal

pub returns : goal.returns
returns c =
    let s = c.args.guarantee in
    let t = c.args.ceiling in
    let e : length s ≡ 8 = search (rules, length_mapped) in
    let h : IsTrue c.all.result ↔ EachIndex s (λ k. slice_index s k ≤ slice_index t k) = search rules in
    every_one (ordered s t) (λ k. share s k ≤ share t k) (λ k. leb-true _ _) (λ k. le-leb _ _) s c.all.result e h
