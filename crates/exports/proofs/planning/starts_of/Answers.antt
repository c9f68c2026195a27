-- `starts_of` is the starts of the entries.
use native.Mathlib.Omega.{arith}
use Rattle.lists.proofs.Front.{length_mapped}
use Rattle.lists.proofs.Copied.{copied_none, copied_more, copied_all}
use Rattle.planner_rules.specs.declared.entry.Entry.{Entry}
use borrow.Author.Rules.{rules}
use Rattle.exports.proofs.planning.starts_of.Goals as goal

pub loop-i-init : goal.loop-i-init
loop-i-init c = (copied_none (λ (e : Entry). e.start) c.args.entries _, search (rules, length_mapped), search rules)

pub loop-i-preserved : goal.loop-i-preserved
loop-i-preserved c = let l = c.loop-i in (
  copied_more (λ (e : Entry). e.start) c.args.entries _ l.i l.r _ (omega (arith, l.invariant.1)) (omega (arith, l.invariant.2)) l.invariant.0,
  l.invariant.1,
  l.invariant.2,
)

pub returns : goal.returns
returns c =
    let l = c.loop-i in
    let i = l.invariant.1 in
    copied_all (λ (e : Entry). e.start) c.args.entries _ l.i l.r (omega (arith, i, c.loop-i-test.false)) (omega (arith, i, l.invariant.2)) l.invariant.0
