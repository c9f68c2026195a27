-- The parts of a transponder over plain variables: messages, timers, ranges.
use Prim.Native.Nat.{ℕ, ◌-◌, ◌≤◌}
use native.Mathlib.Omega.{arith}
use mathlib.Core.Path.{◌≡◌, refl, sym, ap, ◌∙◌}
use mathlib.Core.Bool.{Bool, true, false, ◌&&◌}
use mathlib.Core.List.{List, [], ◌∷◌, ◌++◌, map}
use lib.Dec.{leb}
use lib.ListN.{length, get_or, take, drop, set, get_or-eq_default}
use lib.Seq.{set_out}
use borrow.Author.Tests.{leb-true}
use Rattle.std.specs.Prelude.{Option, Some, None, is_some}
use Rattle.lists.proofs.Tests.{and_true}
use Rattle.frames_rules.specs.Building.{is_address}
use Rattle.frames_rules.specs.declared.answers.Interrogator.{Interrogator}
use Rattle.model_rules.specs.declared.state.Messages.{Messages}
use Rattle.model_rules.specs.declared.state.Timers.{Timers}
use Rattle.model_rules.specs.State.{place_of, idle, started, started_by, waiting, waits, messages_after}
use Rattle.model_rules.specs.Lapse.{timer_after, timers_after}
use Rattle.model_rules.specs.Lockout.{locks, locked_to}
use Rattle.model_rules.specs.Calls.{make_ranged}

-- ---- messages
-- what the slots hold once the first has gone and the others have moved up
moved_up : (l : List ℕ) → 1 ≤ length l → drop 1 (set l 0 0) ++ take 1 (set l 0 0) ≡ drop 1 l ++ (0 ∷ [])
moved_up [] h = absurd (omega arith)
moved_up (x ∷ l) h = refl

pub dropped : (m : Messages) (l : List ℕ) (n : ℕ) → 1 ≤ length m.list → waits m ≡ true → n ≡ length (waiting m)
    → l ≡ drop 1 (set m.list 0 0) ++ take 1 (set m.list 0 0) → record { list = l; n = n - 1 } ≡ messages_after m
unfolding messages_after
dropped m l n h w e p = rw (w, e, p, moved_up m.list h)

-- ---- timers
module _ (t : Timers) (code : Option Interrogator) (c : Interrogator) (time : ℕ) (l : List (Option ℕ)) (k : ℕ)
    (s : code ≡ Some c) (p : k ≡ place_of c) (q : l ≡ t.list) where
  -- the timer at the code's place has the time
  pub started_at : record { list = set l k (Some time) } ≡ started_by code time t
  unfolding started
  started_at = rw (s, p, q)

  -- a place beyond the last starts nothing
  pub started_none : length l ≤ k → record { list = l } ≡ started_by code time t
  unfolding started
  started_none h = rw (s, ← p, ← q) (ap {B = Timers} (λ (x : List (Option ℕ)). record { list = x }) (sym (set_out l k (Some time) h)))

-- whether one locks
locks_is : (x : Option ℕ) → is_some x ≡ locks x
locks_is None = refl
locks_is (Some s) = refl

module _ (t : Timers) (code : Interrogator) (k : ℕ) (p : k ≡ place_of code) (l : List (Option ℕ)) (q : l ≡ t.list) where
  pub locked_at : (b : Bool) → b ≡ is_some (get_or l k None) → b ≡ locked_to code t
  unfolding locked_to
  locked_at b e = rw (← p, ← q) (e ∙ locks_is (get_or l k None))

  pub locked_none : length l ≤ k → false ≡ locked_to code t
  unfolding locked_to
  locked_none h = rw (← p, ← q, get_or-eq_default l idle h)

pub timers_are : (l : List (Option ℕ)) (t : Timers) (now : ℕ) → l ≡ map (timer_after now) t.list → record { list = l } ≡ timers_after now t
unfolding timers_after
timers_are l t now e = ap {B = Timers} (λ (x : List (Option ℕ)). record { list = x }) e

-- ---- the ranges of a making
pub make_in : (address ac id fs ca : ℕ) → make_ranged address ac id fs ca ≡ true → (ac ≤ 8191) × (id ≤ 8191) × (fs ≤ 7) × (ca ≤ 7)
unfolding make_ranged
make_in address ac id fs ca h =
    let t = and_true (is_address address && leb ac 8191 && leb id 8191 && leb fs 7) (leb ca 7) h in
    let u = and_true (is_address address && leb ac 8191 && leb id 8191) (leb fs 7) t.0 in
    let v = and_true (is_address address && leb ac 8191) (leb id 8191) u.0 in
    let w = and_true (is_address address) (leb ac 8191) v.0 in
    (leb-true ac 8191 w.1, leb-true id 8191 v.1, leb-true fs 7 u.1, leb-true ca 7 t.1)
