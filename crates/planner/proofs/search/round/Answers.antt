-- `round` goes past one entry after the other, and may stop once a move went past the last start.
use Prim.Native.Nat.{ℕ, ◌+◌, ◌≤◌}
use native.Mathlib.Omega.{arith}
use mathlib.Core.Path.{◌≡◌, subst}
use mathlib.Core.List.{List}
use lib.ListN.{length, take}
use Rattle.planner_rules.specs.declared.request.Ask.{Ask}
use Rattle.planner_rules.specs.declared.entry.Entry.{Entry}
use Rattle.planner_rules.specs.Fits.{clear_of}
use Rattle.planner.specs.Promises.{held, Shown, Step}
use Rattle.planner_rules.specs.Exchange.{exchange_of, entry_at}
use Rattle.planner.proofs.Steps.{round_first, round_more, round_rest}
use Rattle.planner.proofs.search.round.Goals.{After-nudge-next}
use Rattle.planner.proofs.search.round.Goals as goal

-- one entry more
further : (c : After-nudge-next) → (a : Ask) (es : List Entry) → c.args.p ≡ held (exchange_of a) → c.args.address ≡ a.request.address
    → c.args.n ≤ length es → Shown c.args.rows.now c.args.n es
    → Step (λ (j : ℕ). clear_of (entry_at a j) (take (c.loop-i.i + 1) es)) c.args.t c.nudge-next.result
further c a es x y k h = let l = c.loop-i in
    round_more a es c.args.t l.start c.nudge-next.result l.i (entry_at a 0) (omega (arith, k, c.loop-i-test.true)) (l.invariant.0 a es x y k h)
    (c.nudge-next.ensures.step a _ x y (h.each l.i (entry_at a 0) (omega (arith, c.loop-i-test.true))))

pub loop-i-init : goal.loop-i-init
loop-i-init c = (λ a es x y k h. round_first a es c.args.t c.requires.1, omega arith, c.requires.1)

pub nudge-next-requires : goal.nudge-next-requires
nudge-next-requires c = (c.loop-i.invariant.2, c.requires.2, omega (arith, c.requires.3), c.requires.4 c.loop-i.i (omega arith))

pub loop-i-preserved-then-next-start : goal.loop-i-preserved-then-next-start
loop-i-preserved-then-next-start c = let l = c.loop-i in
    let m = further (goal.at.loop-i-preserved-then-next-start c).After-nudge-next in (
      λ a es x y k h. subst (λ (r : ℕ). Step (λ (j : ℕ). clear_of (entry_at a j) (take (l.i + 1) es)) c.args.t r) c.if-next-start.true (m a es x y k h),
      l.invariant.1,
      l.invariant.2,
    )

pub returns-then-last-next : goal.returns-then-last-next
returns-then-last-next c = let l = c.loop-i in
    let m = further (goal.at.returns-then-last-next c).After-nudge-next in
    record {
      up = omega (arith, l.invariant.1, c.nudge-next.ensures.up);
      cap = c.nudge-next.ensures.cap;
      step =
          λ a es x y k h. round_rest a es c.args.t c.nudge-next.result (l.i + 1) c.args.n (omega (arith, c.loop-i-test.true))
          (omega (arith, c.if-last-next.true, c.requires.0)) (m a es x y k h);
    }

pub loop-i-preserved : goal.loop-i-preserved
loop-i-preserved c = let n = c.nudge-next.ensures in (
  further (goal.at.loop-i-preserved c).After-nudge-next,
  omega (arith, c.loop-i.invariant.1, n.up),
  n.cap,
)

pub returns : goal.returns
returns c =
    let l = c.loop-i in
    let i : l.i ≡ c.args.n = omega (arith, l.auto.i-end, c.loop-i-test.false) in
    record {
      up = l.invariant.1;
      cap = l.invariant.2;
      step =
          λ a es x y k h. subst (λ (m : ℕ). Step (λ (j : ℕ). clear_of (entry_at a j) (take m es)) c.args.t l.start) i (l.invariant.0 a es x y k h);
    }
