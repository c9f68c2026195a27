-- Theorem of lockout: in every history a code is locked exactly while less than 180 tenths have passed since its last command.
use Prim.Native.Nat.{ℕ, zero, suc, ◌+◌, ◌<◌, ◌≤◌}
use native.Mathlib.Omega.{arith}
use mathlib.Core.Path.{◌≡◌, refl, sym, ap, ◌∙◌, subst}
use mathlib.Core.Bool.{Bool, true, false, ◌&&◌, ◌||◌, not}
use mathlib.Core.List.{List, [], ◌∷◌}
use lib.Dec.{eqb}
use lib.ListN.{length, get_or, replicate}
use borrow.Author.Tests.{eqb-true, eqb-false, ne_eqb}
use Rattle.std.specs.Prelude.{Option, Some, None, Result, Ok, Err}
use Rattle.lists.specs.Lists.{pick}
use Rattle.lists.specs.Checks.{checked}
use Rattle.refusals.specs.declared.refusal.Refusal.{Refusal}
use Rattle.frames_rules.specs.Interrogations.{up_of}
use Rattle.frames_rules.specs.declared.answers.Up.{Up}
use Rattle.frames_rules.specs.declared.answers.Up.TheVariants as up
use Rattle.frames_rules.specs.declared.answers.Interrogator.{Interrogator}
use Rattle.frames_rules.specs.declared.answers.Interrogator.TheVariants.{II, SI}
use Rattle.model_rules.specs.declared.state.Timers.{Timers}
use Rattle.model_rules.specs.declared.state.Transponder.{Transponder}
use Rattle.model_rules.specs.State.{place_of, idle, waits, started, started_by}
use Rattle.model_rules.specs.Lapse.{timer_after, lapse}
use Rattle.model_rules.specs.Lockout.{iis, los, sis, lss, command_of_pc, started_by_los, started_by_lss, command_of_sd, commanded, lockout, locks, locked_to}
use Rattle.model_rules.specs.CommB.{asks_to_hold, nobody_else, reserve, closes, closeout}
use Rattle.model_rules.specs.Calls.{newborn, making, steps}
use Rattle.model_rules.specs.History.{Aircraft, made, Call, queue, take, Afterwards, answer, after}
use Rattle.model_rules.specs.Kept.{Kept}
use Rattle.model_rules.specs.Story.{lasts}
use Rattle.model_rules.specs.Seen.{ACode, is_code, told, commands, command_after, last_command, locked_since}
use Rattle.model_rules.specs.Strides.{NotFor}
use Rattle.model_rules.proofs.Came.{of_pick, Stepped, still, did_steps, Came, refusal, did_queue, did_take, came}
use Rattle.model_rules.proofs.Keeping.{ranged_of, kept_lapse, always_kept, stepped_time, lapse_time}
use Rattle.model_rules.proofs.Lapsing.{timer_twice}
use Rattle.model_rules.proofs.Telling.{numbers, always_told}
use Rattle.model_rules.proofs.Timing.{over_or_lasts, at_place, own_timer, other_timer, si_not_ii, ii_one, si_one, started_by_length}

-- ---- a lock at a time
locks_since : (now : ℕ) (l : Option ℕ) → locks (timer_after now l) ≡ locked_since now l
locks_since now None = refl
locks_since now (Some s) = ap (λ (b : Bool). locks (pick b None (Some s))) (over_or_lasts now s) ∙ go (lasts now s)
  where
    go : (b : Bool) → locks (pick (not b) None (Some s)) ≡ b
    go true = refl
    go false = refl

-- ---- the lock at a code's place
abbrev lock_at : Interrogator → Timers → Option ℕ
lock_at c t = get_or t.list (place_of c) idle

in_place : (c : Interrogator) → ACode c → place_of c < 79
in_place (II n) h = omega (arith, h)
in_place (SI n) h = let k = h.1 in omega (arith, k)

-- what a started timer does to the lock of a code: it is that code's, or it changes nothing
own : (c : Interrogator) → ACode c → (time : ℕ) (t : Timers) → length t.list ≡ 79 → lock_at c (started (place_of c) time t) ≡ Some time
own c ok time t h = let k = in_place c ok in own_timer c time t (omega (arith, h, k))

other : (c : Interrogator) (time : ℕ) (t : Timers) (d : Interrogator) → (place_of c ≡ place_of d → ⊥) → lock_at c (started (place_of d) time t) ≡ lock_at c t
other c time t d n = other_timer d c time t n

-- a code that a command may name, or nobody's
abbrev AStart : Option Interrogator → Type 0
AStart (Some (II n)) = n ≤ 15
AStart (Some (SI n)) = 1 ≤ n
AStart None = Unit {0}

module _ (time : ℕ) (t : Timers) (h : length t.list ≡ 79) where
  starts : (c : Interrogator) → ACode c → (d : Option Interrogator) → AStart d → lock_at c (started_by d time t) ≡ pick (is_code c d) (Some time) (lock_at c t)
  starts (II n) ok (Some (II m)) st = go (eqb n m) refl
    where
      go : (b : Bool) → eqb n m ≡ b → lock_at (II n) (started m time t) ≡ pick b (Some time) (lock_at (II n) t)
      go true e = rw (← eqb-true n m e) (own (II n) ok time t h)
      go false e = other (II n) time t (II m) (λ q. eqb-false n m e (ii_one m n q))
  starts (II n) ok (Some (SI m)) st = other (II n) time t (SI m) (si_not_ii m n st ok)
  starts (SI n) ok (Some (II m)) st = other (SI n) time t (II m) (λ q. si_not_ii n m ok.0 st (sym q))
  starts (SI n) ok (Some (SI m)) st = go (eqb n m) refl
    where
      go : (b : Bool) → eqb n m ≡ b → lock_at (SI n) (started (15 + m) time t) ≡ pick b (Some time) (lock_at (SI n) t)
      go true e = rw (← eqb-true n m e) (own (SI n) ok time t h)
      go false e = other (SI n) time t (SI m) (λ q. eqb-false n m e (si_one m n q))
  starts (II n) ok None st = refl
  starts (SI n) ok None st = refl

-- ---- the commands of a frame
by_pc : (pc : ℕ) → AStart (command_of_pc pc)
by_pc pc = of_pick AStart (eqb pc 1) (Some (II 0)) None (omega arith) tt

by_sd : (di sd : ℕ) → AStart (command_of_sd di sd)
unfolding command_of_sd started_by_los started_by_lss
by_sd di sd =
    of_pick AStart (eqb di 1 || eqb di 7) _ _ (of_pick AStart (eqb (los sd) 1) (Some (II (iis sd))) None (omega arith) tt)
    (of_pick AStart (eqb di 3) _ None (of_pick AStart (eqb (lss sd) 1) _ None (some (eqb (sis sd) 0) refl) tt) tt)
  where
    some : (b : Bool) → eqb (sis sd) 0 ≡ b → AStart (pick b None (Some (SI (sis sd))))
    some true e = tt
    some false e = let n = eqb-false (sis sd) 0 e in omega (arith, n)

either : {A : Type 0} (x y : Bool) (s l : A) → pick y s (pick x s l) ≡ pick (x || y) s l
either true true s l = refl
either true false s l = refl
either false y s l = refl

module _ (c : Interrogator) (ok : ACode c) (pc di sd : ℕ) (t : Transponder) (h : length t.timers.list ≡ 79) where
  lockout_lock : lock_at c (lockout pc di sd t).timers ≡ pick (is_code c (command_of_pc pc) || is_code c (command_of_sd di sd)) (Some t.time)
      (lock_at c t.timers)
  unfolding lockout commanded
  lockout_lock =
      let x = started_by (command_of_pc pc) t.time t.timers in
      let n : length x.list ≡ 79 = started_by_length (command_of_pc pc) t.time t.timers ∙ h in
      starts t.time x n c ok (command_of_sd di sd) (by_sd di sd)
      ∙ ap (λ (l : Option ℕ). pick (is_code c (command_of_sd di sd)) (Some t.time) l) (starts t.time t.timers h c ok (command_of_pc pc) (by_pc pc))
      ∙ either (is_code c (command_of_pc pc)) (is_code c (command_of_sd di sd)) (Some t.time) (lock_at c t.timers)

-- ---- reservation and closeout leave the timers
closeout_timers : (pc di sd : ℕ) (t : Transponder) → (closeout pc di sd t).timers ≡ t.timers
unfolding closeout
closeout_timers pc di sd t = of_pick (λ (u : Transponder). u.timers ≡ t.timers) (closes pc di sd t.holder) _ t refl refl

reserve_timers : (di sd : ℕ) (t : Transponder) → (reserve di sd t).timers ≡ t.timers
unfolding reserve
reserve_timers di sd t =
    of_pick (λ (u : Transponder). u.timers ≡ t.timers) (asks_to_hold di sd && waits t.messages && nobody_else (iis sd) t.holder) _ t refl refl

steps_timers : (pc di sd : ℕ) (t : Transponder) → (steps pc di sd t).timers ≡ (lockout pc di sd t).timers
unfolding steps
steps_timers pc di sd t = closeout_timers pc di sd (reserve di sd (lockout pc di sd t)) ∙ reserve_timers di sd (lockout pc di sd t)

-- ---- a new transponder
idle_at : (n k : ℕ) → get_or (replicate n idle) k idle ≡ idle
idle_at zero k = refl
idle_at (suc n) zero = refl
idle_at (suc n) (suc k) = idle_at n k

newborn_lock : (a : Aircraft) → (made a).number ≡ 0 → (c : Interrogator) → lock_at c (made a).transponder.timers ≡ None
unfolding checked making newborn
newborn_lock a m c = rw (ranged_of a m) (idle_at 79 (place_of c))

-- ---- by the transponder and by what was seen
module _ (a : Aircraft) (c : Interrogator) (ok : ACode c) where
  abbrev Agree : Transponder → Option ℕ → Type 0
  Agree t l = (now : ℕ) → t.time ≤ now → timer_after now (lock_at c t.timers) ≡ timer_after now l

  abbrev Next : Call → Option ℕ → Afterwards → Type 0
  Next x l r = Agree r.transponder (command_after a c x r.number l)

  lapse_agrees : (t : Transponder) (time : ℕ) (l : Option ℕ) → t.time ≤ time → Agree t l → Agree (lapse time t) l
  unfolding lapse
  lapse_agrees t time l p h now q =
      ap (timer_after now) (at_place c time t.timers) ∙ timer_twice time now q (lock_at c t.timers) ∙ h now (omega (arith, p, q))

  passed_over : (x : Call) (n : ℕ) (l : Option ℕ) → (n ≡ 0 → ⊥) → command_after a c x n l ≡ l
  passed_over (queue m b) n l z = refl
  passed_over (take time draw f) n l z = rw (ne_eqb n 0 z)

  commands_nothing : (address : ℕ) (x : Result Up Refusal) → NotFor address x → commands address c x ≡ false
  commands_nothing address (Ok (up.Selective uf pc rr di sd ma r)) n = rw n
  commands_nothing address (Ok (up.AllCall pr ic cl r)) n = refl
  commands_nothing address (Err r) n = refl

  -- a frame starts the timer of a code that it commands, and leaves that of any other
  stepped_lock : (t : Transponder) (x : Result Up Refusal) (u : Transponder) → Stepped t x u → length t.timers.list ≡ 79
      → lock_at c u.timers ≡ pick (commands t.address c x) (Some t.time) (lock_at c t.timers)
  stepped_lock t x u (still n e) h = rw (commands_nothing t.address x n, e)
  stepped_lock t x u (did_steps uf pc rr di sd ma r l e) h = rw (l, e) (ap (lock_at c) (steps_timers pc di sd t) ∙ lockout_lock c ok pc di sd t h)

  agree_next : (t : Transponder) → Kept a t → (l : Option ℕ) (x : Call) (r : Afterwards) → Came t x r → Agree t l → Next x l r
  agree_next t k l x r (refusal n z e) h = subst (Next x l) (sym e) (subst (Agree t) (sym (passed_over x n.number l z)) h)
  agree_next t k l x r (did_queue m b w v e) h = subst (Next (queue m b) l) (sym e) h
  agree_next t k l x r (did_take time draw f u p i e) h =
      let v = lapse time t in
      let kept = kept_lapse a time t k in
      let b = commands a.address c (up_of f) in
      let timer : lock_at c u.timers ≡ pick b (Some time) (lock_at c v.timers) = stepped_lock v (up_of f) u i kept.timers
      ∙ ap (λ (n : ℕ). pick (commands n c (up_of f)) (Some v.time) (lock_at c v.timers)) kept.same.address
      ∙ ap (λ (s : ℕ). pick b (Some s) (lock_at c v.timers)) (lapse_time time t) in
      let when : u.time ≡ time = stepped_time v (up_of f) u i ∙ lapse_time time t in
      subst (Next (take time draw f) l) (sym e)
      (λ now q.
      ap (timer_after now) timer
      ∙ by_bool b now (Some time) (lock_at c v.timers) l (lapse_agrees t time l p h now (rw (lapse_time time t) (rw when at q))))
    where
      by_bool : (b : Bool) (now : ℕ) (s x l : Option ℕ) → timer_after now x ≡ timer_after now l → timer_after now (pick b s x) ≡ timer_after now (pick b s l)
      by_bool true now s x l h = refl
      by_bool false now s x l h = h

  agree_always : (made a).number ≡ 0 → (cs : List Call) → Agree (after a cs) (last_command a c cs)
  unfolding after last_command
  agree_always m [] = λ now q. ap (λ (x : Option ℕ). timer_after now x) (newborn_lock a m c)
  agree_always m (x ∷ cs) =
      let g = agree_next (after a cs) (always_kept a m cs) (last_command a c cs) x (answer (after a cs) x) (came (after a cs) x) (agree_always m cs) in
      rw (numbers a m cs x) at g

  -- in every history, at every time from its last one on
  pub locked_exactly : (made a).number ≡ 0 → (cs : List Call) (now : ℕ) → (told a cs).time ≤ now
      → locked_to c (lapse now (after a cs)).timers ≡ locked_since now (last_command a c cs)
  unfolding locked_to lapse
  locked_exactly m cs now p =
      let q = rw (← (always_told a m cs).clock) at p in
      ap locks (at_place c now (after a cs).timers) ∙ ap locks (agree_always m cs now q) ∙ locks_since now (last_command a c cs)
