-- `in_range` looks at the eight shares.
use Prim.Native.Nat.{◌≤◌}
use mathlib.Core.Path.{◌≡◌}
use lib.ListN.{length}
use borrow.Author.Tests.{leb-true, le-leb}
use borrow.Author.Rules.{rules}
use Rattle.std.specs.Prelude.{◌↔◌, IsTrue, EachIndex, slice_index}
use Rattle.lists.proofs.Front.{length_mapped}
use Rattle.planner_rules.specs.Shares.{share, in_range}
use Rattle.planner.proofs.Eight.{every_one}
use Rattle.planner.proofs.shares.in_range.Goals as goal

pub returns : goal.returns
returns c =
    let s = c.args.shares in
    let e : length s ≡ 8 = search (rules, length_mapped) in
    let h : IsTrue c.all.result ↔ EachIndex s (λ k. slice_index s k ≤ 16) = search rules in
    every_one (in_range s) (λ k. share s k ≤ 16) (λ k. leb-true _ _) (λ k. le-leb _ _) s c.all.result e h
