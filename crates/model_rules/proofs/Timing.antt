-- Theorems of timers: how long one locks, and which one a command starts.
use Prim.Native.Nat.{ℕ, ◌+◌, ◌-◌, ◌<◌, ◌≤◌}
use native.Mathlib.Omega.{arith}
use mathlib.Core.Path.{◌≡◌, refl}
use mathlib.Core.Bool.{Bool, true, false, ◌||◌, not}
use mathlib.Core.Logic.{◌⊎◌, inl, inr}
use lib.Dec.{eqb}
use borrow.Author.Tests.{eqb-true, eqb-false, ne_eqb, leb-true, leb-false, le-leb, le-ltb, lt-ltb}
use lib.ListN.{length, get_or, length-set, get_or-map}
use lib.Seq.{get_or-set_same, get_or-set_other}
use Rattle.std.specs.Prelude.{Option, Some, None}
use Rattle.lists.specs.Lists.{pick}
use Rattle.frames_rules.specs.declared.answers.Interrogator.{Interrogator}
use Rattle.frames_rules.specs.declared.answers.Interrogator.TheVariants.{II, SI}
use Rattle.model_rules.specs.declared.state.Timers.{Timers}
use Rattle.model_rules.specs.declared.state.Transponder.{Transponder}
use Rattle.model_rules.specs.State.{place_of, idle, started, started_by}
use Rattle.model_rules.specs.Lapse.{lasting, is_over, timer_after, timers_after}
use Rattle.model_rules.specs.Lockout.{iis, los, sis, lss, command_of_pc, started_by_los, started_by_lss, command_of_sd, commanded, lockout, locks, locked_to}
use Rattle.model_rules.specs.Story.{lasts}

-- ---- less than 180 tenths: what is over does not last, what is over at a time is over later, and what begins lasts
pub over_or_lasts : (now s : ℕ) → is_over now s ≡ not (lasts now s)
over_or_lasts now s = go (is_over now s) refl
  where
    go : (b : Bool) → is_over now s ≡ b → b ≡ not (lasts now s)
    go true e = let p = leb-true lasting (now - s) e in rw (le-ltb (now - s) 180 p)
    go false e = let p = leb-false lasting (now - s) e in rw (lt-ltb (now - s) 180 p)

pub over_later : (now then s : ℕ) → then ≤ now → is_over then s ≡ true → is_over now s ≡ true
over_later now then s h e = let p = leb-true lasting (then - s) e in le-leb lasting (now - s) (omega arith)

pub lasts_now : (n : ℕ) → lasts n n ≡ true
lasts_now n = lt-ltb (n - n) 180 (omega arith)

-- what stands at a code's place after a lapse is what stood there, lapsed
pub at_place : (code : Interrogator) (now : ℕ) (t : Timers)
    → get_or (timers_after now t).list (place_of code) idle ≡ timer_after now (get_or t.list (place_of code) idle)
unfolding timers_after
at_place code now t = get_or-map (timer_after now) t.list (place_of code) idle

-- ---- "locks while less than 180 tenths have passed since its command"
module _ (code : Interrogator) (now s : ℕ) (t : Timers) (e : get_or t.list (place_of code) idle ≡ Some s) where
  pub locked_while : now - s < 180 → locked_to code (timers_after now t) ≡ true
  unfolding locked_to
  locked_while h = rw (at_place code now t, e) (go (is_over now s) refl)
    where
      go : (b : Bool) → is_over now s ≡ b → locks (pick b None (Some s)) ≡ true
      go true p = let q = leb-true lasting (now - s) p in absurd (omega (arith, q, h))
      go false p = refl

  pub free_after : 180 ≤ now - s → locked_to code (timers_after now t) ≡ false
  unfolding locked_to
  free_after h = rw (at_place code now t, e) (go (is_over now s) refl)
    where
      go : (b : Bool) → is_over now s ≡ b → locks (pick b None (Some s)) ≡ false
      go true p = refl
      go false p = let q = leb-false lasting (now - s) p in absurd (omega (arith, q, h))

-- "locked 179 tenths after, free at 180"
module _ (code : Interrogator) (s : ℕ) (t : Timers) (e : get_or t.list (place_of code) idle ≡ Some s) where
  pub locked_at_179 : locked_to code (timers_after (s + 179) t) ≡ true
  locked_at_179 = locked_while code (s + 179) s t e (omega arith)

  pub free_at_180 : locked_to code (timers_after (s + 180) t) ≡ false
  free_at_180 = free_after code (s + 180) s t e (omega arith)

-- a timer that was never commanded never locks
pub never_locks : (code : Interrogator) (now : ℕ) (t : Timers) → get_or t.list (place_of code) idle ≡ idle → locked_to code (timers_after now t) ≡ false
unfolding locked_to
never_locks code now t e = rw (at_place code now t, e)

-- ---- a command starts its own timer
pub own_timer : (code : Interrogator) (time : ℕ) (t : Timers) → place_of code < length t.list
    → get_or (started (place_of code) time t).list (place_of code) idle ≡ Some time
unfolding started
own_timer code time t h = get_or-set_same t.list (place_of code) (Some time) idle h

-- and no other
pub other_timer : (code other : Interrogator) (time : ℕ) (t : Timers) → (place_of other ≡ place_of code → ⊥)
    → get_or (started (place_of code) time t).list (place_of other) idle ≡ get_or t.list (place_of other) idle
unfolding started
other_timer code other time t n = get_or-set_other t.list (place_of code) (place_of other) (Some time) idle n

-- "an SI lockout that also locks the II of equal number": an SI and an II never share a timer, and two of a kind only if they are one
pub si_not_ii : (n m : ℕ) → 1 ≤ n → m ≤ 15 → place_of (II m) ≡ place_of (SI n) → ⊥
si_not_ii n m h k e = omega arith

pub ii_one : (n m : ℕ) → place_of (II m) ≡ place_of (II n) → m ≡ n
ii_one n m e = e

pub si_one : (n m : ℕ) → place_of (SI m) ≡ place_of (SI n) → m ≡ n
si_one n m e = omega arith

-- ---- which command starts which timer
pub started_length : (t : Timers) (place time : ℕ) → length (started place time t).list ≡ length t.list
unfolding started
started_length t place time = simp length-set

pub started_by_length : (c : Option Interrogator) (time : ℕ) (t : Timers) → length (started_by c time t).list ≡ length t.list
started_by_length None time t = refl
started_by_length (Some c) time t = started_length t (place_of c) time

-- the timer that a code starts locks, and a timer that locks still does when any is started
start_locks : (c : Interrogator) (time : ℕ) (t : Timers) → place_of c < length t.list → locked_to c (started (place_of c) time t) ≡ true
unfolding locked_to
start_locks c time t h = rw (own_timer c time t h)

still_locks : (c : Interrogator) (other : Option Interrogator) (time : ℕ) (t : Timers) → place_of c < length t.list → locked_to c t ≡ true
    → locked_to c (started_by other time t) ≡ true
unfolding locked_to
still_locks c None time t h e = e
still_locks c (Some other) time t h e = go (eqb (place_of c) (place_of other)) refl
  where
    go : (b : Bool) → eqb (place_of c) (place_of other) ≡ b → locks (get_or (started (place_of other) time t).list (place_of c) idle) ≡ true
    go true p = rw (← eqb-true (place_of c) (place_of other) p, own_timer c time t h)
    go false p = rw (other_timer other c time t (eqb-false (place_of c) (place_of other) p)) e

-- of a transponder with its 79 timers
module _ (pc di sd : ℕ) (t : Transponder) (h : length t.timers.list ≡ 79) where
  -- "PC 1 starts II 0"
  pub pc_1_locks : pc ≡ 1 → locked_to (II 0) (lockout pc di sd t).timers ≡ true
  unfolding lockout commanded
  pc_1_locks e =
      rw e
      (still_locks (II 0) (command_of_sd di sd) t.time (started 0 t.time t.timers) (omega (arith, h, started_length t.timers 0 t.time))
      (start_locks (II 0) t.time t.timers (omega (arith, h))))

  -- the code that SD commands is locked
  sd_locks : (c : Interrogator) → command_of_sd di sd ≡ Some c → place_of c < 79 → locked_to c (lockout pc di sd t).timers ≡ true
  unfolding lockout commanded
  sd_locks c e p =
      rw e
      (start_locks c t.time (started_by (command_of_pc pc) t.time t.timers) (omega (arith, h, p, started_by_length (command_of_pc pc) t.time t.timers)))

  -- "DI 1 or 7 with LOS (bit 26) starts the II in bits 17-20"
  pub los_locks : (di ≡ 1) ⊎ (di ≡ 7) → los sd ≡ 1 → locked_to (II (iis sd)) (lockout pc di sd t).timers ≡ true
  unfolding command_of_sd started_by_los
  los_locks d e = sd_locks (II (iis sd)) (by d) (omega arith)
    where
      by : (di ≡ 1) ⊎ (di ≡ 7) → command_of_sd di sd ≡ Some (II (iis sd))
      by (inl q) = rw (q, e)
      by (inr q) = rw (q, e)

  -- "DI 3 with LSS (bit 23) starts the SI in 17-22; SI 0 starts none"
  pub lss_locks : di ≡ 3 → lss sd ≡ 1 → (sis sd ≡ 0 → ⊥) → locked_to (SI (sis sd)) (lockout pc di sd t).timers ≡ true
  unfolding command_of_sd started_by_lss
  lss_locks d e n = sd_locks (SI (sis sd)) (rw (d, e, ne_eqb (sis sd) 0 n)) (omega arith)

-- no other command starts one: LOS is read for DI 1 and 7 alone, LSS for DI 3 alone
pub no_command : (di sd : ℕ) → (di ≡ 1 → ⊥) → (di ≡ 3 → ⊥) → (di ≡ 7 → ⊥) → command_of_sd di sd ≡ None
unfolding command_of_sd
no_command di sd a b c = rw (ne_eqb di 1 a, ne_eqb di 7 c, ne_eqb di 3 b)

pub without_los : (di sd : ℕ) → (di ≡ 3 → ⊥) → (los sd ≡ 1 → ⊥) → command_of_sd di sd ≡ None
unfolding command_of_sd started_by_los
without_los di sd a b = rw (ne_eqb di 3 a, ne_eqb (los sd) 1 b) (go (eqb di 1 || eqb di 7))
  where
    go : (x : Bool) → pick {A = Option Interrogator} x None None ≡ None
    go true = refl
    go false = refl

pub without_lss : (sd : ℕ) → (lss sd ≡ 1 → ⊥) → command_of_sd 3 sd ≡ None
unfolding command_of_sd started_by_lss
without_lss sd b = rw (ne_eqb (lss sd) 1 b)

pub si_0_starts_none : (sd : ℕ) → sis sd ≡ 0 → command_of_sd 3 sd ≡ None
unfolding command_of_sd started_by_lss
si_0_starts_none sd e = rw e (go (eqb (lss sd) 1))
  where
    go : (x : Bool) → pick {A = Option Interrogator} x None None ≡ None
    go true = refl
    go false = refl

-- nobody's command changes no timer
pub no_timer : (pc di sd : ℕ) (t : Transponder) → (pc ≡ 1 → ⊥) → command_of_sd di sd ≡ None → lockout pc di sd t ≡ t
unfolding lockout commanded
no_timer pc di sd t n e = rw (ne_eqb pc 1 n, e)
