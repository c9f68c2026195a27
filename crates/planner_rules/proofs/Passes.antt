-- A pass, step by step, as a relation between what is placed and waits before and after.
use Rattle.std.specs.Prelude.{Option, Some, None}
use Prim.Native.Nat.{ℕ, zero, suc, ◌+◌, ◌≤◌, ◌<◌}
use native.Mathlib.Omega.{arith}
use native.Mathlib.Nat.{le_refl}
use mathlib.Core.Path.{◌≡◌, refl, ◌∙◌}
use mathlib.Core.Logic.{◌⊎◌, inl, inr}
use mathlib.Core.Bool.{Bool, true, false}
use mathlib.Core.List.{List, [], ◌∷◌, ◌++◌}
use lib.Dec.{ltb}
use lib.ListN.{length, length-append}
use borrow.Author.Tests.{ltb-true, ltb-false}
use Rattle.lists.specs.Lists.{pick}
use Rattle.planner_rules.specs.declared.request.Ask.{Ask}
use Rattle.planner_rules.specs.declared.entry.Entry.{Entry}
use Rattle.planner_rules.specs.Exchange.{entry_at}
use Rattle.planner_rules.specs.Fits.{place}
use Rattle.planner_rules.specs.Shares.{share}
use Rattle.planner_rules.specs.declared.setup.Setup.{Setup}
use Rattle.planner_rules.specs.Plan.{taken, Board, tried, stays, pass, alone, turns, nothing_placed, plan}

-- the list is done; a request is put behind those placed; or it stays
pub data Passed (L : ℕ) (limits : List ℕ) : List Entry → List Ask → List Entry → List Ask → Type 0 where
  done : {es : List Entry} → Passed L limits es [] es []
  put : {es es' : List Entry} {w w' : List Ask} (a : Ask) (t : ℕ) → taken a.request.unit es < share limits a.request.unit → place L es a ≡ Some t
      → Passed L limits (es ++ (entry_at a t ∷ [])) w es' w' → Passed L limits es (a ∷ w) es' w'
  stay : {es es' : List Entry} {w w' : List Ask} (a : Ask) → (share limits a.request.unit ≤ taken a.request.unit es) ⊎ (place L es a ≡ None)
      → Passed L limits es w es' w' → Passed L limits es (a ∷ w) es' (a ∷ w')

module _ (L : ℕ) (limits : List ℕ) where
  abbrev Tried : List Entry → Ask → Option ℕ → Type 0
  Tried es a (Some t) = (taken a.request.unit es < share limits a.request.unit) × (place L es a ≡ Some t)
  Tried es a None = (share limits a.request.unit ≤ taken a.request.unit es) ⊎ (place L es a ≡ None)

  try_is : (es : List Entry) (a : Ask) → Tried es a (tried L (share limits a.request.unit) es a)
  unfolding tried
  try_is es a = go (ltb (taken a.request.unit es) (share limits a.request.unit)) refl (place L es a) refl
    where
      go : (b : Bool) → ltb (taken a.request.unit es) (share limits a.request.unit) ≡ b → (s : Option ℕ) → place L es a ≡ s → Tried es a (pick b s None)
      go true e (Some t) h = (ltb-true _ _ e, h)
      go true e None h = inr h
      go false e s h = inl (ltb-false _ _ e)

  pub passed : (es : List Entry) (w : List Ask) → Passed L limits es w (pass L limits es w).placed (pass L limits es w).waiting
  unfolding pass
  passed es [] = done
  passed es (a ∷ w) = go (tried L (share limits a.request.unit) es a) (try_is es a) (λ es. passed es w)
    where
      go : (s : Option ℕ) → Tried es a s → ((es : List Entry) → Passed L limits es w (pass L limits es w).placed (pass L limits es w).waiting)
          → Passed L limits es (a ∷ w)
          (elim s as (λ _. Board) [ Some t ↦ pass L limits (es ++ (entry_at a t ∷ [])) w | None ↦ stays a (pass L limits es w) ]).placed
          (elim s as (λ _. Board) [ Some t ↦ pass L limits (es ++ (entry_at a t ∷ [])) w | None ↦ stays a (pass L limits es w) ]).waiting
      go (Some t) h ih = put a t h.0 h.1 (ih (es ++ (entry_at a t ∷ [])))
      go None h ih = stay a h (ih es)

snoc_length : {A : Type 0} (v : List A) (x : A) → length (v ++ (x ∷ [])) ≡ suc (length v)
snoc_length v x = simp length-append (omega arith)

module _ {L : ℕ} {limits : List ℕ} where
  -- as many are placed or wait after as before, and nothing placed is taken back
  pub sizes : {es es' : List Entry} {w w' : List Ask} → Passed L limits es w es' w' → length es' + length w' ≡ length es + length w
  sizes done = refl
  sizes (put {es = es} a t c p r) = omega (arith, sizes r, snoc_length es (entry_at a t))
  sizes (stay a c r) = omega (arith, sizes r)

  pub longer : {es es' : List Entry} {w w' : List Ask} → Passed L limits es w es' w' → length es ≤ length es'
  longer done = le_refl _
  longer (put {es = es} a t c p r) = omega (arith, longer r, snoc_length es (entry_at a t))
  longer (stay a c r) = longer r

-- the same of the turns
pub turns_sizes : (L : ℕ) (shares : List ℕ) (n : ℕ) (b : Board)
    → length (turns L shares n b).placed + length (turns L shares n b).waiting ≡ length b.placed + length b.waiting
unfolding turns
turns_sizes L shares zero b = refl
turns_sizes L shares (suc n) b = sizes (passed L (alone n shares) (turns L shares n b).placed (turns L shares n b).waiting) ∙ turns_sizes L shares n b

-- a plan of nothing places nothing
pub plan_of_nothing : (s : Setup) → plan s [] ≡ nothing_placed []
unfolding pass turns plan
plan_of_nothing s = refl
