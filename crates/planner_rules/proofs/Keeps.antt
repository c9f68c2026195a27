-- What a pass keeps, and what it leaves.
use Rattle.std.specs.Prelude.{Some, None}
use Prim.Native.Nat.{ℕ, suc, ◌+◌, ◌≤◌, ◌<◌}
use native.Mathlib.Omega.{arith}
use native.Mathlib.Nat.{le_refl, eq-or-lt_of_le, le_of_suc-le-suc}
use mathlib.Core.Path.{◌≡◌, refl, sym, subst, ◌∙◌}
use mathlib.Core.Logic.{◌⊎◌, inl, inr, ⊎_elim}
use mathlib.Core.Bool.{Bool, true, false, ◌&&◌}
use mathlib.Core.List.Sublistᴰ
use mathlib.Core.List.{List, [], ◌∷◌, ◌++◌, map, append-nil, Sublistᴰ}
use lib.Dec.{leb, eqb}
use lib.ListN.{length, get_or, take, length-append, get_or-append}
use lib.Seq.{take-append-le, take-append_seam, get_or-append_seam, append_snoc}
use borrow.Author.Tests.{eqb-true}
use Rattle.lists.specs.Lists.{count_of, All}
use Rattle.lists.proofs.Count.{count_cons, count_snoc, count_snoc_yes, count_snoc_no}
use Rattle.lists.proofs.Held.{all_nil, all_cons, all_head, all_tail, all_snoc}
use Rattle.planner_rules.specs.declared.request.Ask.{Ask}
use Rattle.planner_rules.specs.declared.entry.Entry.{Entry}
use Rattle.planner_rules.specs.declared.entry.Status.TheVariants.{Open}
use Rattle.planner_rules.specs.Exchange.{entry_at, spans, clear}
use Rattle.planner_rules.specs.Fits.{clear_of, fits, place}
use Rattle.planner_rules.specs.Shares.{share}
use Rattle.planner_rules.specs.Plan.{of_unit, taken}
use Rattle.planner_rules.specs.Demand3.{ask_of}
use Rattle.planner_rules.proofs.Smallest.{at_fits, nowhere_fits, fits_ends, fits_clear}
use Rattle.planner_rules.proofs.Clear.{clear_of_snoc}
use Rattle.planner_rules.proofs.Windows.{Clear, clear_snoc}
use Rattle.planner_rules.proofs.Passes.{Passed, done, put, stay}

-- each entry has its place beside those of lower numbers
abbrev pub Numbered : ℕ → List Entry → Type 0
Numbered L es = (z : Entry) (k : ℕ) → k < length es → place L (take k es) (get_or es k z).ask ≡ Some (get_or es k z).start

numbered_snoc : (L : ℕ) (es : List Entry) (a : Ask) (t : ℕ) → place L es a ≡ Some t → Numbered L es → Numbered L (es ++ (entry_at a t ∷ []))
numbered_snoc L es a t p h z k l =
    let n : length (es ++ (entry_at a t ∷ [])) ≡ suc (length es) = simp length-append (omega arith) in
    ⊎_elim last before (eq-or-lt_of_le (le_of_suc-le-suc (subst (λ (m : ℕ). k < m) n l)))
  where
    last : k ≡ length es
        → place L (take k (es ++ (entry_at a t ∷ []))) (get_or (es ++ (entry_at a t ∷ [])) k z).ask ≡ Some (get_or (es ++ (entry_at a t ∷ [])) k z).start
    last e = rw (e, take-append_seam es (entry_at a t ∷ []), get_or-append_seam es (entry_at a t) [] z) p

    before : k < length es
        → place L (take k (es ++ (entry_at a t ∷ []))) (get_or (es ++ (entry_at a t ∷ [])) k z).ask ≡ Some (get_or (es ++ (entry_at a t ∷ [])) k z).start
    before b =
        let le : k ≤ length es = omega arith in
        rw (take-append-le k es (entry_at a t ∷ []) le, get_or-append es (entry_at a t ∷ []) z k b) (h z k b)

-- what does not fit does not fit among more
unfit_more : (L : ℕ) (es : List Entry) (e d : Entry) → fits L es d ≡ false → fits L (es ++ (e ∷ [])) d ≡ false
unfolding fits
unfit_more L es e d h = rw (clear_of_snoc d es e) (go (leb (spans d).hi L) (clear_of d es) (clear d e) h)
  where
    go : (a b c : Bool) → (a && b) ≡ false → (a && (b && c)) ≡ false
    go true true c h = absurd (omega (arith, zero_one h))
      where
        zero_one : true ≡ false → ◌≡◌ {A = ℕ} 0 1
        zero_one e = cc
    go true false c h = refl
    go false b c h = refl

-- no start is left
abbrev pub Unfit : ℕ → List Entry → Ask → Type 0
Unfit L es a = (t : ℕ) → fits L es (entry_at a t) ≡ false

-- why a request stays in a pass
abbrev pub Left : ℕ → List ℕ → List Entry → Ask → Type 0
Left L limits es a = (share limits a.request.unit ≤ taken a.request.unit es) ⊎ Unfit L es a

-- and it stays so among more
module _ (L : ℕ) (limits : List ℕ) (es : List Entry) where
  pub left_of : (a : Ask) → (share limits a.request.unit ≤ taken a.request.unit es) ⊎ (place L es a ≡ None) → Left L limits es a
  left_of a (inl h) = inl h
  left_of a (inr h) = inr (nowhere_fits L es a h)

  pub left_more : (e : Entry) (a : Ask) → Left L limits es a → Left L limits (es ++ (e ∷ [])) a
  left_more e a (inl h) = inl (omega (arith, h, count_snoc (λ (d : Entry). of_unit a.request.unit d.ask) es e))
  left_more e a (inr h) = inr (λ t. unfit_more L es e (entry_at a t) (h t))

-- what a pass adds behind those placed
pub record Added (es es' : List Entry) (w : List Ask) : Type 0 where
  pub new : List Entry
  pub behind : es' ≡ es ++ new
  pub by_age : Sublistᴰ (map ask_of new) w

module _ {L : ℕ} {limits : List ℕ} where
  pub keeps_ends : {es es' : List Entry} {w w' : List Ask} → Passed L limits es w es' w' → All (λ (e : Entry). (spans e).hi ≤ L) es
      → All (λ (e : Entry). (spans e).hi ≤ L) es'
  keeps_ends done h = h
  keeps_ends (put {es = es} a t c p r) h = keeps_ends r (all_snoc _ es (entry_at a t) h (fits_ends L es (entry_at a t) (at_fits L es a t p)))
  keeps_ends (stay a c r) h = keeps_ends r h

  pub keeps_clear : {es es' : List Entry} {w w' : List Ask} → Passed L limits es w es' w' → Clear es → Clear es'
  keeps_clear done h = h
  keeps_clear (put {es = es} a t c p r) h = keeps_clear r (clear_snoc es (entry_at a t) (fits_clear L es (entry_at a t) (at_fits L es a t p)) h)
  keeps_clear (stay a c r) h = keeps_clear r h

  pub keeps_open : {es es' : List Entry} {w w' : List Ask} → Passed L limits es w es' w' → All (λ (e : Entry). e.status ≡ Open) es
      → All (λ (e : Entry). e.status ≡ Open) es'
  keeps_open done h = h
  keeps_open (put {es = es} a t c p r) h = keeps_open r (all_snoc _ es (entry_at a t) h refl)
  keeps_open (stay a c r) h = keeps_open r h

  pub keeps_numbers : {es es' : List Entry} {w w' : List Ask} → Passed L limits es w es' w' → Numbered L es → Numbered L es'
  keeps_numbers done h = h
  keeps_numbers (put {es = es} a t c p r) h = keeps_numbers r (numbered_snoc L es a t p h)
  keeps_numbers (stay a c r) h = keeps_numbers r h

  -- a unit whose limit is no more than C has no more than C placed
  pub keeps_ceiling : {es es' : List Entry} {w w' : List Ask} (u C : ℕ) → share limits u ≤ C → Passed L limits es w es' w' → taken u es ≤ C → taken u es' ≤ C
  keeps_ceiling u C l done h = h
  keeps_ceiling u C l (put {es = es} a t c p r) h = keeps_ceiling u C l r (go (eqb a.request.unit u) refl)
    where
      go : (b : Bool) → eqb a.request.unit u ≡ b → taken u (es ++ (entry_at a t ∷ [])) ≤ C
      go true e =
          let below : taken u es < share limits u = subst (λ (v : ℕ). taken v es < share limits v) (eqb-true a.request.unit u e) c in
          omega (arith, count_snoc_yes (λ (e : Entry). of_unit u e.ask) es (entry_at a t) e)
      go false e = omega (arith, count_snoc_no (λ (e : Entry). of_unit u e.ask) es (entry_at a t) e)
  keeps_ceiling u C l (stay a c r) h = keeps_ceiling u C l r h

  -- nothing that is placed is taken back
  pub grows : {es es' : List Entry} {w w' : List Ask} (f : Entry → Bool) → Passed L limits es w es' w' → count_of f es ≤ count_of f es'
  grows f done = le_refl _
  grows f (put {es = es} a t c p r) = omega (arith, count_snoc f es (entry_at a t), grows f r)
  grows f (stay a c r) = grows f r

  -- each request is placed or waits, once
  pub keeps_all : {es es' : List Entry} {w w' : List Ask} (f : Ask → Bool) → Passed L limits es w es' w'
      → count_of (λ (e : Entry). f e.ask) es' + count_of f w' ≡ count_of (λ (e : Entry). f e.ask) es + count_of f w
  keeps_all f done = refl
  keeps_all f (put {es = es} {w = w} a t c p r) = omega (arith, keeps_all f r, count_snoc (λ (e : Entry). f e.ask) es (entry_at a t), count_cons f a w)
  keeps_all f (stay {w = w} {w' = w'} a c r) = omega (arith, keeps_all f r, count_cons f a w, count_cons f a w')

  -- those that wait keep their order, and what holds of each
  pub keeps_order_is : {es es' : List Entry} {w w' : List Ask} → Passed L limits es w es' w' → Sublistᴰ w' w
  keeps_order_is done = Sublistᴰ.refl []
  keeps_order_is (put a t c p r) = Sublistᴰ.cons (keeps_order_is r)
  keeps_order_is (stay a c r) = Sublistᴰ.cons-cons refl (keeps_order_is r)

  pub keeps_each : {es es' : List Entry} {w w' : List Ask} (P : Ask → Type 0) → Passed L limits es w es' w' → All P w → All P w'
  keeps_each P done h = h
  keeps_each P (put {w = w} a t c p r) h = keeps_each P r (all_tail P a w h)
  keeps_each P (stay {w = w} {w' = w'} a c r) h = all_cons P a w' (all_head P a w h) (keeps_each P r (all_tail P a w h))

  -- what is added, goes behind and by age
  pub adds : {es es' : List Entry} {w w' : List Ask} → Passed L limits es w es' w' → Added es es' w
  adds {es} done = record { new = []; behind = sym (append-nil es); by_age = Sublistᴰ.slnil }
  adds (put {es = es} a t c p r) =
      let h = adds r in
      record { new = entry_at a t ∷ h.new; behind = h.behind ∙ append_snoc es (entry_at a t) h.new; by_age = Sublistᴰ.cons-cons refl h.by_age }
  adds (stay a c r) = let h = adds r in record { new = h.new; behind = h.behind; by_age = Sublistᴰ.cons h.by_age }

  -- what stays has its unit at the limit, or no start is left for it beside all that is placed in the end
  keeps_unfit : {es es' : List Entry} {w w' : List Ask} (a : Ask) → Passed L limits es w es' w' → Unfit L es a → Unfit L es' a
  keeps_unfit a done h = h
  keeps_unfit a (put {es = es} b s c p r) h = keeps_unfit a r (λ t. unfit_more L es (entry_at b s) (entry_at a t) (h t))
  keeps_unfit a (stay b c r) h = keeps_unfit a r h

  pub why_left : {es es' : List Entry} {w w' : List Ask} → Passed L limits es w es' w' → All (Left L limits es') w'
  why_left {es} done = all_nil (Left L limits es)
  why_left (put a t c p r) = why_left r
  why_left (stay {es = es} {es' = es'} {w' = w'} a c r) =
      all_cons (Left L limits es') a w'
      (⊎_elim (λ h. inl (omega (arith, grows (λ (e : Entry). of_unit a.request.unit e.ask) r))) (λ h. inr (keeps_unfit a r (nowhere_fits L es a h))) c)
      (why_left r)
