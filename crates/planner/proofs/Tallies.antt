-- Counts by unit, and whether a unit has reached its limit.
use Rattle.std.specs.Prelude.{None}
use Prim.Native.Nat.{ℕ, ◌+◌, ◌≤◌, ◌<◌}
use native.Mathlib.Omega.{arith}
use mathlib.Core.Path.{◌≡◌, refl, sym, ap, ◌∙◌}
use mathlib.Core.Logic.{⊎_elim}
use mathlib.Core.Bool.{Bool, true, false}
use mathlib.Core.List.{List, [], ◌∷◌, ◌++◌}
use lib.Dec.{eqb}
use lib.ListN.{length, set, replicate, length-set, get_or-eq_default}
use lib.Seq.{get_or-set_same, get_or-set_other}
use borrow.Author.Tests.{lt-ltb, le-ltb, eqb-true, eqb-false}
use Rattle.lists.proofs.Count.{count_nil, count_le, count_snoc_yes, count_snoc_no}
use Rattle.planner_rules.specs.declared.request.Ask.{Ask}
use Rattle.planner_rules.specs.declared.entry.Entry.{Entry}
use Rattle.planner_rules.specs.Fits.{place}
use Rattle.planner_rules.specs.Shares.{share}
use Rattle.planner_rules.specs.Plan.{of_unit, taken, tried}
use Rattle.planner.specs.Promises.{Tallied}
use Rattle.planner_rules.proofs.Smallest.{le_or_lt}
use Rattle.planner_rules.proofs.Guarantee.{zeros}

pub tallied_none : Tallied (replicate 8 0) []
tallied_none = record { eight = refl; each = λ u l. zeros 8 u ∙ sym (count_nil (λ (e : Entry). of_unit u e.ask)) }

pub tallied_more : (c : List ℕ) (es : List Entry) (e : Entry) → Tallied c es
    → Tallied (set c e.ask.request.unit (share c e.ask.request.unit + 1)) (es ++ (e ∷ []))
tallied_more c es e h = record { eight = length-set c v (share c v + 1) ∙ h.eight; each = λ u l. go u l (eqb v u) refl }
  where
    v : ℕ
    v = e.ask.request.unit

    go : (u : ℕ) → u < 8 → (b : Bool) → eqb v u ≡ b → share (set c v (share c v + 1)) u ≡ taken u (es ++ (e ∷ []))
    go u l true q =
        let here : v ≡ u = eqb-true v u q in
        let got = get_or-set_same c v (share c v + 1) 0 (omega (arith, h.eight)) in
        let n = count_snoc_yes (λ (e : Entry). of_unit u e.ask) es e q in
        let k : share c v ≡ taken u es = ap (share c) here ∙ h.each u l in
        ap (share (set c v (share c v + 1))) (sym here) ∙ got ∙ (omega arith)
    go u l false q =
        get_or-set_other c v u (share c v + 1) 0 (λ (k : u ≡ v). eqb-false v u q (sym k))
        ∙ h.each u l
        ∙ sym (count_snoc_no (λ (e : Entry). of_unit u e.ask) es e q)

-- the counts are small
pub tallied_small : (c : List ℕ) (es : List Entry) (u : ℕ) → length es ≤ 128 → Tallied c es → share c u < 255
tallied_small c es u n h =
    ⊎_elim
    (λ l. let z = get_or-eq_default c 0 {n = u} (omega (arith, h.eight)) in omega arith)
    (λ l. omega (arith, h.each u l, count_le (λ (e : Entry). of_unit u e.ask) es))
    (le_or_lt 8 u)

-- a unit at its limit gets no place, one below it gets what there is
module _ (L : ℕ) (limits c : List ℕ) (es : List Entry) (a : Ask) (eight : length limits ≡ 8) (h : Tallied c es) where
  abbrev unit : ℕ
  unit = a.request.unit

  pub at_limit : share limits unit ≤ share c unit → None ≡ tried L (share limits unit) es a
  unfolding tried
  at_limit l =
      ⊎_elim
      (λ k. let z = get_or-eq_default limits 0 {n = unit} (omega arith) in rw (le-ltb (taken unit es) (share limits unit) (omega arith)))
      (λ k. rw (le-ltb (taken unit es) (share limits unit) (omega (arith, h.each unit k))))
      (le_or_lt 8 unit)

  pub below_limit : share c unit < share limits unit → place L es a ≡ tried L (share limits unit) es a
  unfolding tried
  below_limit l =
      ⊎_elim
      (λ k. let z = get_or-eq_default limits 0 {n = unit} (omega arith) in absurd (omega arith))
      (λ k. rw (lt-ltb (taken unit es) (share limits unit) (omega (arith, h.each unit k))))
      (le_or_lt 8 unit)
