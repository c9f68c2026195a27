-- A plan is told by its lines: unit, address and start of each entry leave no doubt which requests were placed and which are left.
use Rattle.std.specs.Prelude.{Some}
use Prim.Native.Nat.{ℕ, ◌≤◌, ◌<◌}
use native.Mathlib.Omega.{arith}
use mathlib.Core.Path.{◌≡◌, refl, sym, subst, ap, ap₂, ◌∙◌}
use mathlib.Core.Logic.{inl, inr}
use mathlib.Core.Bool.{Bool, true, false, ◌&&◌}
use mathlib.Core.List.{List, [], ◌∷◌, ◌++◌, map, append-nil, append_assoc}
use lib.Dec.{eqb}
use lib.ListN.{take}
use lib.Seq.{append_snoc}
use borrow.Author.Tests.{eqb-true, eq-eqb}
use Rattle.lists.specs.Lists.{All}
use Rattle.lists.proofs.Filter.{filter_yes, filter_no}
use Rattle.lists.proofs.Held.{all_nil, all_map, all_snoc}
use Rattle.lists.proofs.Tests.{and_no_right}
use Rattle.planner_rules.specs.declared.request.Ask.{Ask}
use Rattle.planner_rules.specs.declared.entry.Entry.{Entry}
use Rattle.planner_rules.specs.declared.setup.Setup.{Setup}
use Rattle.planner_rules.specs.Exchange.{entry_at}
use Rattle.planner_rules.specs.Fits.{fits, place}
use Rattle.planner_rules.specs.Shares.{share, setup_number}
use Rattle.planner_rules.specs.Plan.{taken, Board, plan}
use Rattle.planner_rules.specs.Told.{EntryShown, entry_shown, is_meant, oldest_that, without_it, told_by}
use Rattle.planner_rules.proofs.Smallest.{at_fits}
use Rattle.planner_rules.proofs.Passes.{Passed, done, put, stay}
use Rattle.planner_rules.proofs.Keeps.{Left, left_of, left_more}
use Rattle.planner_rules.proofs.Demand3.{accepted, of_plan_is}

-- ---- the oldest that a test takes stands behind those that it does not take
module _ (p : Ask → Bool) (a : Ask) (h : p a ≡ true) (w : List Ask) where
  abbrev Not : Ask → Type 0
  Not x = p x ≡ false

  first_is : (v : List Ask) → All Not v → oldest_that p (v ++ (a ∷ w)) ≡ a ∷ []
  unfolding All
  first_is [] n = ap (take 1) (filter_yes p a w h)
  first_is (x ∷ v) n = ap (take 1) (filter_no p x (v ++ (a ∷ w)) n.0) ∙ first_is v n.1

  rest_is : (v : List Ask) → All Not v → without_it p (v ++ (a ∷ w)) ≡ v ++ w
  unfolding All without_it
  rest_is [] n = rw h
  rest_is (x ∷ v) n = rw n.0 (ap (λ (l : List Ask). x ∷ l) (rest_is v n.1))

-- ---- a pass, told by the lines of what it places
module _ (L : ℕ) (limits : List ℕ) where
  -- a line can be of the request that was placed, and of none that stayed before it
  meant : (es : List Entry) (a : Ask) (t : ℕ) → place L es a ≡ Some t → is_meant L es (entry_shown (entry_at a t)) a ≡ true
  meant es a t p = rw (eq-eqb a.request.unit a.request.unit refl, eq-eqb a.request.address a.request.address refl) (at_fits L es a t p)

  not_meant : (es : List Entry) (a : Ask) (t : ℕ) → taken a.request.unit es < share limits a.request.unit → (b : Ask) → Left L limits es b
      → is_meant L es (entry_shown (entry_at a t)) b ≡ false
  not_meant es a t c b (inl l) = go (eqb b.request.unit a.request.unit) refl
    where
      go : (d : Bool) → eqb b.request.unit a.request.unit ≡ d → d && eqb b.request.address a.request.address && fits L es (entry_at b t) ≡ false
      go true e =
          let m : share limits a.request.unit ≤ taken a.request.unit es =
          subst (λ (u : ℕ). share limits u ≤ taken u es) (eqb-true b.request.unit a.request.unit e) l in
          absurd (omega (arith, c, m))
      go false e = refl
  not_meant es a t c b (inr u) =
      and_no_right (eqb b.request.unit a.request.unit && eqb b.request.address a.request.address) (fits L es (entry_at b t)) (u t)

  -- one line more
  next_line : (es : List Entry) (x : EntryShown) (xs : List EntryShown) (w v : List Ask) (a : Ask)
      → oldest_that (is_meant L es x) w ≡ a ∷ [] → without_it (is_meant L es x) w ≡ v
      → told_by L es (x ∷ xs) w ≡ told_by L (es ++ (entry_at a x.start ∷ [])) xs v
  unfolding told_by
  next_line es x xs w v a e f =
      ap₂ (λ (l u : List Ask). told_by L (es ++ map (λ (b : Ask). entry_at b x.start) l) xs u) e f

  -- what a pass adds, and the lines of it read beside requests that stayed before
  pub record Read (v : List Ask) (es es' : List Entry) (w w' : List Ask) : Type 0 where
    pub new : List Entry
    pub behind : es' ≡ es ++ new
    pub told : told_by L es (map entry_shown new) (v ++ w) ≡ record { placed = es'; waiting = v ++ w' }

  read : {es es' : List Entry} {w w' : List Ask} (v : List Ask) → All (Left L limits es) v → Passed L limits es w es' w' → Read v es es' w w'
  unfolding told_by
  read {es} v h done = record { new = []; behind = sym (append-nil es); told = refl }
  read v h (put {es = es} {es' = es'} {w = w} {w' = w'} a t c p r) =
      let x = entry_shown (entry_at a t) in
      let e = entry_at a t in
      let none : All (λ (b : Ask). is_meant L es x b ≡ false) v = all_map (Left L limits es) (λ (b : Ask). is_meant L es x b ≡ false)
      (not_meant es a t c) v h in
      let later = read v (all_map (Left L limits es) (Left L limits (es ++ (e ∷ []))) (λ b k. left_more L limits es e b k) v h) r in
      record {
        new = e ∷ later.new;
        behind = later.behind ∙ append_snoc es e later.new;
        told =
            next_line es x (map entry_shown later.new) (v ++ (a ∷ w)) (v ++ w) a
            (first_is (is_meant L es x) a (meant es a t p) w v none)
            (rest_is (is_meant L es x) a (meant es a t p) w v none)
            ∙ later.told;
      }
  read {es} v h (stay {es' = es'} {w = w} {w' = w'} a c r) =
      let later = read (v ++ (a ∷ [])) (all_snoc (Left L limits es) v a h (left_of L limits es a c)) r in
      record {
        new = later.new;
        behind = later.behind;
        told =
            ap (told_by L es (map entry_shown later.new)) (sym (append_assoc v (a ∷ []) w))
            ∙ later.told
            ∙ ap (λ (l : List Ask). record { placed = es'; waiting = l }) (append_assoc v (a ∷ []) w');
      }

-- ---- passes one after the other
shown_append : (es new : List Entry) → map entry_shown (es ++ new) ≡ map entry_shown es ++ map entry_shown new
shown_append [] new = refl
shown_append (e ∷ es) new = ap (λ (l : List EntryShown). entry_shown e ∷ l) (shown_append es new)

told_then : (L : ℕ) (xs ys : List EntryShown) (es : List Entry) (w : List Ask)
    → told_by L es (xs ++ ys) w ≡ told_by L (told_by L es xs w).placed ys (told_by L es xs w).waiting
unfolding told_by
told_then L [] ys es w = refl
told_then L (x ∷ xs) ys es w = told_then L xs ys _ _

abbrev Told : ℕ → List Ask → List Entry → List Ask → Type 0
Told L w es v = told_by L [] (map entry_shown es) w ≡ record { placed = es; waiting = v }

pass_told : (L : ℕ) (limits : List ℕ) (w : List Ask) (es es' : List Entry) (v v' : List Ask) → Passed L limits es v es' v' → Told L w es v → Told L w es' v'
pass_told L limits w es es' v v' r h =
    let n = read L limits [] (all_nil (Left L limits es)) r in
    ap (λ (l : List Entry). told_by L [] (map entry_shown l) w) n.behind
    ∙ ap (λ (l : List EntryShown). told_by L [] l w) (shown_append es n.new)
    ∙ told_then L (map entry_shown es) (map entry_shown n.new) [] w
    ∙ ap (λ (b : Board). told_by L b.placed (map entry_shown n.new) b.waiting) h
    ∙ n.told

-- the lines of the plan of every accepted setup tell the plan
pub plan_told : (s : Setup) → setup_number s ≡ 0 → (w : List Ask) → told_by s.period [] (map entry_shown (plan s w).placed) w ≡ plan s w
unfolding told_by
plan_told s h w =
    of_plan_is s (accepted s h) w (λ es v. Told s.period w es v) refl (λ limits k es es' v v' r q. pass_told s.period limits w es es' v v' r q)
