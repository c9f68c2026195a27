-- Demand 3, shown of every plan.
use Prim.Native.Nat.{ℕ, zero, suc, ◌+◌, ◌*◌, ◌≤◌, ◌<◌}
use native.Mathlib.Omega.{arith}
use native.Mathlib.Nat.{le_refl}
use mathlib.Core.Path.{◌≡◌, refl, sym, subst, ap, ◌∙◌}
use mathlib.Core.Bool.{Bool, true, false}
use mathlib.Core.List.Sublistᴰ
use mathlib.Core.List.{List, [], map, Sublistᴰ}
use lib.Dec.{eqb}
use lib.ListN.{length, take, drop, length-map}
use lib.Seq.{take_at, drop_at}
use borrow.Author.Tests.{leb-true, eqb-true, eqb-false, not-false}
use Rattle.lists.specs.Lists.{count_of, total, every, All}
use Rattle.lists.proofs.Tests.{and_true}
use Rattle.lists.proofs.Checks.{zero_passed}
use Rattle.lists.proofs.Count.{count_nil}
use Rattle.lists.proofs.Every.{every_at}
use Rattle.lists.proofs.Held.{all_nil}
use Rattle.lists.proofs.Over.{take_over}
use Rattle.planner_rules.specs.declared.request.Ask.{Ask}
use Rattle.planner_rules.specs.declared.entry.Entry.{Entry}
use Rattle.planner_rules.specs.declared.entry.Status.TheVariants.{Open}
use Rattle.planner_rules.specs.declared.setup.Setup.{Setup}
use Rattle.planner_rules.specs.declared.plan.Planned.{Planned}
use Rattle.planner_rules.specs.Exchange.{longest, spans}
use Rattle.planner_rules.specs.Shares.{share, ordered, shares_fit, setup_ranged, shares_good, setup_checks, setup_number}
use Rattle.planner_rules.specs.Plan.{of_unit, taken, alone, turns, nothing_placed, first_phase, plan, placed_in, waiting_in, in_slots}
use Rattle.planner_rules.specs.Demand3.{Proper, ask_of, oldest, Demand3}
use Rattle.planner_rules.proofs.Windows.{Clear, clear_nil, one_window, one_exchange}
use Rattle.planner_rules.proofs.Passes.{Passed, passed}
use Rattle.planner_rules.proofs.Keeps.{Numbered, keeps_ends, keeps_clear, keeps_open, keeps_numbers, keeps_ceiling, grows, keeps_all, keeps_order_is}
use Rattle.planner_rules.proofs.Keeps.{keeps_each, adds, why_left}
use Rattle.planner_rules.proofs.Guarantee.{alone_own, alone_other, afters}

-- a setup that is answered 0: its guarantees are within its ceilings, and they fit
pub record Accepted (s : Setup) : Type 0 where
  pub order : (u : ℕ) → u < 8 → share s.guarantee u ≤ share s.ceiling u
  pub room : total (share s.guarantee) 8 * (longest + s.reach) ≤ s.period

pub accepted : (s : Setup) → setup_number s ≡ 0 → Accepted s
unfolding setup_number setup_checks shares_fit
accepted s h =
    let g = not-false (shares_good s) ((zero_passed (setup_checks s) refl h).off 3) in
    let e = and_true (every (ordered s.guarantee s.ceiling) 8) (shares_fit s) g in
    record {
      order = λ u l. leb-true _ _ (every_at (ordered s.guarantee s.ceiling) 8 u e.0 l);
      room = leb-true _ _ e.1;
    }

-- and its numbers are in their ranges
pub setup_in : (s : Setup) → setup_number s ≡ 0 → setup_ranged s ≡ true
unfolding setup_number setup_checks
setup_in s h = not-false (setup_ranged s) ((zero_passed (setup_checks s) refl h).off 2)

-- the limits of each pass are within the ceilings
pub Within : Setup → List ℕ → Type 0
Within s limits = (v : ℕ) → share limits v ≤ share s.ceiling v

turn_within : (s : Setup) → Accepted s → (n : ℕ) → n < 8 → Within s (alone n s.guarantee)
unfolding Within
turn_within s ok n h v = go (eqb v n) refl
  where
    go : (b : Bool) → eqb v n ≡ b → share (alone n s.guarantee) v ≤ share s.ceiling v
    go true e =
        subst (λ (k : ℕ). share (alone n s.guarantee) k ≤ share s.ceiling k) (sym (eqb-true v n e))
        (omega (arith, alone_own n s.guarantee h, ok.order n h))
    go false e = omega (arith, alone_other n v s.guarantee (eqb-false v n e))

-- what each pass keeps holds of the plan
module _ (s : Setup) (ok : Accepted s) (w : List Ask) (Q : List Entry → List Ask → Type 0) (start : Q [] w)
    (step : (limits : List ℕ) → Within s limits → (es es' : List Entry) (w w' : List Ask) → Passed s.period limits es w es' w' → Q es w → Q es' w') where
  of_turns : (n : ℕ) → n ≤ 8 → Q (turns s.period s.guarantee n (nothing_placed w)).placed (turns s.period s.guarantee n (nothing_placed w)).waiting
  unfolding turns
  of_turns zero h = start
  of_turns (suc n) h =
      step (alone n s.guarantee) (turn_within s ok n h) _ _ _ _
      (passed s.period (alone n s.guarantee) (turns s.period s.guarantee n (nothing_placed w)).placed
      (turns s.period s.guarantee n (nothing_placed w)).waiting)
      (of_turns n (omega arith))

  pub of_plan_is : Q (plan s w).placed (plan s w).waiting
  unfolding plan Within
  of_plan_is =
      step s.ceiling (λ v. le_refl _) _ _ _ _ (passed s.period s.ceiling (first_phase s w).placed (first_phase s w).waiting) (of_turns 8 (le_refl 8))

module _ (s : Setup) (ok : Accepted s) (w : List Ask) (pw : All (Proper s) w) where
  -- the second phase
  second : Passed s.period s.ceiling (first_phase s w).placed (first_phase s w).waiting (plan s w).placed (plan s w).waiting
  unfolding plan
  second = passed s.period s.ceiling (first_phase s w).placed (first_phase s w).waiting

  plan_clear : Clear (plan s w).placed
  plan_clear = of_plan_is s ok w (λ es w. Clear es) clear_nil (λ limits k es es' w w' r h. keeps_clear r h)

  first_count : length (first_phase s w).placed ≡ length (oldest s.guarantee 8 w)
  first_count = sym (length-map (first_phase s w).placed ask_of) ∙ ap length (afters s ok.room w pw 8 (le_refl 8)).took

  -- the first entries are those of the first phase, and the others go by age
  first_part : map ask_of (take (length (oldest s.guarantee 8 w)) (plan s w).placed) ≡ oldest s.guarantee 8 w
  first_part =
      let a = adds second in
      ap (λ (v : List Entry). map ask_of (take (length (oldest s.guarantee 8 w)) v)) a.behind
      ∙ ap (map ask_of) (take_at (first_phase s w).placed a.new (length (oldest s.guarantee 8 w)) first_count)
      ∙ (afters s ok.room w pw 8 (le_refl 8)).took

  second_part : Sublistᴰ (map ask_of (drop (length (oldest s.guarantee 8 w)) (plan s w).placed)) w
  second_part =
      let a = adds second in
      let e : drop (length (oldest s.guarantee 8 w)) (plan s w).placed ≡ a.new = ap (drop (length (oldest s.guarantee 8 w))) a.behind ∙ drop_at
      (first_phase s w).placed a.new (length (oldest s.guarantee 8 w)) first_count in
      rw e
      (Sublistᴰ.trans a.by_age
      (of_turns s ok w (λ es v. Sublistᴰ v w) (Sublistᴰ.refl w) (λ limits k es es' w w' r h. Sublistᴰ.trans (keeps_order_is r) h) 8 (le_refl 8)))

  shown : Demand3 s w (plan s w).placed (plan s w).waiting
  unfolding Within
  shown =
      record {
        no_overlap = λ x. one_window x (plan s w).placed plan_clear;
        no_interleaving = λ x address. one_exchange x address (plan s w).placed plan_clear;
        ends_in_period = of_plan_is s ok w (λ es w. All (λ (e : Entry). (spans e).hi ≤ s.period) es) (all_nil _) (λ limits k es es' w w' r h. keeps_ends r h);
        at_least = λ u h. omega (arith, (afters s ok.room w pw 8 (le_refl 8)).got u h, grows (λ (e : Entry). of_unit u e.ask) second);
        first_placed = first_part;
        at_most =
            λ u. of_plan_is s ok w (λ es w. taken u es ≤ share s.ceiling u) (omega (arith, count_nil (λ (e : Entry). of_unit u e.ask)))
            (λ limits k es es' w w' r h. keeps_ceiling u (share s.ceiling u) (k u) r h);
        left_for = why_left second;
        keeps_order = of_plan_is s ok w (λ es v. Sublistᴰ v w) (Sublistᴰ.refl w) (λ limits k es es' w w' r h. Sublistᴰ.trans (keeps_order_is r) h);
        none_lost =
            λ f. of_plan_is s ok w (λ es v. count_of (λ (e : Entry). f e.ask) es + count_of f v ≡ count_of f w)
            (omega (arith, count_nil (λ (e : Entry). f e.ask))) (λ limits k es es' w w' r h. keeps_all f r ∙ h);
        numbered = of_plan_is s ok w (λ es w. Numbered s.period es) (λ z k l. absurd (omega arith)) (λ limits k es es' w w' r h. keeps_numbers r h);
        by_age = second_part;
        all_open = of_plan_is s ok w (λ es w. All (λ (e : Entry). e.status ≡ Open) es) (all_nil _) (λ limits k es es' w w' r h. keeps_open r h);
      }

-- demand 3 of the plan of every accepted setup and every waiting list that the station keeps
pub demand3 : (s : Setup) → setup_number s ≡ 0 → (w : List Ask) → All (Proper s) w → Demand3 s w (plan s w).placed (plan s w).waiting
demand3 s h w pw = shown s (accepted s h) w pw

-- the same of what `make_plan` answers: the entries and the requests left, as its caller reads them
pub demand3_of_answer : (s : Setup) → setup_number s ≡ 0 → (w : List Ask) → All (Proper s) w → (old : List Entry) (base : List Ask) (r : Planned)
    → r ≡ in_slots (plan s w) old base → Demand3 s w (placed_in r) (waiting_in r)
demand3_of_answer s h w pw old base r e =
    rw (e, take_over (plan s w).placed old, take_over (plan s w).waiting base) (demand3 s h w pw)

-- what holds of each request that waits holds of each that is left
pub left_each : (s : Setup) → setup_number s ≡ 0 → (w : List Ask) (P : Ask → Type 0) → All P w → All P (plan s w).waiting
left_each s h w P a = of_plan_is s (accepted s h) w (λ es v. All P v) a (λ limits k es es' w w' r q. keeps_each P r q)
