-- Theorems of strides: what every history keeps, so that a lapse to its own time changes nothing; and frames that only move time.
use Prim.Native.Nat.{ℕ, ◌-◌, ◌≤◌}
use native.Mathlib.Omega.{arith}
use mathlib.Core.Path.{◌≡◌, refl, sym, ap, ◌∙◌, subst}
use mathlib.Core.Bool.{Bool, true, false, ◌&&◌, false≢true}
use mathlib.Core.List.{List, [], ◌∷◌, ◌++◌}
use borrow.Author.Tests.{ltb-false, lt-ltb, le-ltb, leb-false}
use Rattle.std.specs.Prelude.{Result, Option, Some, None}
use Rattle.lists.specs.Lists.{pick, All}
use Rattle.lists.proofs.Checks.{CameTo, was_refused, was_done, whichever, all, end}
use Rattle.lists.proofs.Held.{all_same}
use Rattle.lists.proofs.Each.{all_set, all_image}
use Rattle.refusals.specs.declared.refusal.Refusal.{Refusal}
use Rattle.frames_rules.specs.Interrogations.{up_of}
use Rattle.frames_rules.specs.declared.answers.Up.{Up}
use Rattle.frames_rules.specs.declared.answers.Interrogator.{Interrogator}
use Rattle.model_rules.specs.declared.state.Timers.{Timers}
use Rattle.model_rules.specs.declared.state.Holder.{Holder}
use Rattle.model_rules.specs.Answers.{Made, Queued, Took}
use Rattle.model_rules.specs.declared.state.Transponder.{Transponder}
use Rattle.model_rules.specs.State.{idle, started, started_by, waits}
use Rattle.model_rules.specs.Lapse.{lasting, is_over, timer_after, timers_after, holder_after, lapse}
use Rattle.model_rules.specs.Lockout.{iis, command_of_pc, command_of_sd, commanded, lockout}
use Rattle.model_rules.specs.CommB.{asks_to_hold, nobody_else, reserve, closes, closeout}
use Rattle.model_rules.specs.Calls.{newborn, making_checks, not_made, making, queuing_checks, not_queued, queuing}
use Rattle.model_rules.specs.Calls.{taking_checks, not_taken, is_taken, comes, taking, steps}
use Rattle.model_rules.specs.History.{Aircraft, made, Call, queue, take, Afterwards, answer, after}
use Rattle.model_rules.specs.Strides.{Rising, last_of, lapses, LastsAt, TimerLastsAt, HolderLastsAt, Current}
use Rattle.model_rules.specs.Strides.{NotFor, Stride, OneLapse, Strides}
use Rattle.model_rules.proofs.Timing.{lasts_now}
use Rattle.model_rules.proofs.Lapsing.{lapse_twice, lapses_rising, lapse_still}
use Rattle.model_rules.specs.Seen.{told}
use Rattle.model_rules.proofs.Came.{of_pick, Stepped, still, did_steps, Came, refusal, did_queue, did_take, took, frame_came, came}
use Rattle.model_rules.proofs.Keeping.{always_kept, time_never_goes_back}
use Rattle.model_rules.proofs.Telling.{always_told}

-- ---- what every history keeps: a lapse to a time that is not before, and what begins at the transponder's time
begun_now : (now : ℕ) → LastsAt now now
begun_now now = (omega arith, lasts_now now)

-- once for a lock and for a reservation: what is left of one that began at s
left_lasting : {A : Type 0} (P : A → Type 0) (gone here : A) (now later s : ℕ) → now ≤ later → LastsAt now s → P gone → (LastsAt later s → P here)
    → P (pick (is_over later s) gone here)
left_lasting P gone here now later s h k p q = go (is_over later s) refl
  where
    go : (b : Bool) → is_over later s ≡ b → P (pick b gone here)
    go true e = p
    go false e = let l = leb-false lasting (later - s) e in q (omega (arith, h, k.0), lt-ltb (later - s) 180 l)

timer_lapsed : (now later : ℕ) → now ≤ later → (x : Option ℕ) → TimerLastsAt now x → TimerLastsAt later (timer_after later x)
timer_lapsed now later h None k = tt
timer_lapsed now later h (Some s) k = left_lasting (TimerLastsAt later) None (Some s) now later s h k tt (λ q. q)

holder_lapsed : (now later : ℕ) → now ≤ later → (x : Option Holder) → HolderLastsAt now x → HolderLastsAt later (holder_after later x)
holder_lapsed now later h None k = tt
holder_lapsed now later h (Some x) k = left_lasting (HolderLastsAt later) None (Some x) now later x.since h k tt (λ q. q)

current_lapse : (t : Transponder) (now : ℕ) → t.time ≤ now → Current t → Current (lapse now t)
unfolding lapse timers_after
current_lapse t now h k =
    record {
      timers =
          all_image (timer_after now) (TimerLastsAt t.time) (TimerLastsAt now)
          (timer_lapsed t.time now h)
          t.timers.list
          k.timers;
      holder = holder_lapsed t.time now h t.holder k.holder;
    }

current_started : (c : Option Interrogator) (now : ℕ) (t : Timers) → All (TimerLastsAt now) t.list → All (TimerLastsAt now) (started_by c now t).list
unfolding started
current_started None now t k = k
current_started (Some c) now t k = all_set (TimerLastsAt now) t.list _ _ (begun_now now) k

current_lockout : (pc di sd : ℕ) (t : Transponder) → Current t → Current (lockout pc di sd t)
unfolding lockout commanded
current_lockout pc di sd t k =
    record {
      timers = current_started (command_of_sd di sd) t.time _ (current_started (command_of_pc pc) t.time t.timers k.timers);
      holder = k.holder;
    }

current_reserve : (di sd : ℕ) (t : Transponder) → Current t → Current (reserve di sd t)
unfolding reserve
current_reserve di sd t k =
    of_pick Current (asks_to_hold di sd && waits t.messages && nobody_else (iis sd) t.holder) _ t
    (record { timers = k.timers; holder = begun_now t.time })
    k

current_closeout : (pc di sd : ℕ) (t : Transponder) → Current t → Current (closeout pc di sd t)
unfolding closeout
current_closeout pc di sd t k = of_pick Current (closes pc di sd t.holder) _ t (record { timers = k.timers; holder = tt }) k

current_stepped : (t : Transponder) (x : Result Up Refusal) (u : Transponder) → Stepped t x u → Current t → Current u
unfolding steps
current_stepped t x u (still n e) k = subst Current (sym e) k
current_stepped t x u (did_steps uf pc rr di sd ma r l e) k =
    subst Current (sym e)
    (current_closeout pc di sd (reserve di sd (lockout pc di sd t)) (current_reserve di sd (lockout pc di sd t) (current_lockout pc di sd t k)))

-- each call, with any numbers and bytes
pub current_newborn : (address ac id fs ca : ℕ) → Current (newborn address ac id fs ca)
unfolding newborn
current_newborn address ac id fs ca = record { timers = all_same (TimerLastsAt 0) 79 idle tt; holder = tt }

pub current_making : (address ac id fs ca : ℕ) → Current (making address ac id fs ca).transponder
unfolding All making making_checks
current_making address ac id fs ca =
    whichever (λ (m : Made). Current m.transponder) _ not_made _ (current_newborn 0 0 0 0 0, tt) (λ p. current_newborn address ac id fs ca)

pub current_queuing : (t : Transponder) (m : List ℕ) → Current t → Current (queuing t m).transponder
unfolding All queuing queuing_checks
current_queuing t m k =
    whichever (λ (q : Queued). Current q.transponder) _ (not_queued t) _ (k, (k, tt)) (λ p. record { timers = k.timers; holder = k.holder })

pub current_taking : (t : Transponder) (time draw : ℕ) (f : List ℕ) → Current t → Current (taking t time draw f).transponder
current_taking t time draw f k = go (answer t (take time draw f)) (came t (take time draw f))
  where
    go : (r : Afterwards) → Came t (take time draw f) r → Current r.transponder
    go r (refusal n z e) = subst (λ (x : Afterwards). Current x.transponder) (sym e) k
    go r (did_take _ _ _ u p i e) =
        subst (λ (x : Afterwards). Current x.transponder) (sym e) (current_stepped (lapse time t) (up_of f) u i (current_lapse t time p k))

pub always_current : (a : Aircraft) (cs : List Call) → Current (after a cs)
unfolding after
always_current a [] = current_making a.address a.ac a.id a.fs a.ca
always_current a (queue m b ∷ cs) = current_queuing (after a cs) m (always_current a cs)
always_current a (take time draw f ∷ cs) = current_taking (after a cs) time draw f (always_current a cs)

-- ---- a frame that only moves time leaves what a lapse to the transponder's new time leaves
only_time : (t : Transponder) (x : Result Up Refusal) (u : Transponder) → NotFor t.address x → Stepped t x u → u ≡ t
only_time t x u n (still _ e) = e
only_time t x u n (did_steps uf pc rr di sd ma r l e) = absurd (false≢true (sym n ∙ l))

module _ (t : Transponder) where
  -- a transponder that a lapse has left has its time
  at_its_time : (now : ℕ) (u : Transponder) → u ≡ lapse now t → u ≡ lapse u.time t
  unfolding lapse
  at_its_time now u e = e ∙ ap (λ (y : Transponder). lapse y.time t) (sym e)

  strode : (c : Call) (r : Afterwards) → Current t → Stride t.address c → Came t c r → r.transponder ≡ lapse r.transponder.time t
  unfolding lapse
  strode c r k n (refusal x z e) =
      at_its_time t.time r.transponder (ap (λ (y : Afterwards). y.transponder) e ∙ sym (lapse_still t k))
  strode c r k n (did_queue m b l w e) = absurd n
  strode c r k n (did_take time draw f u p i e) =
      at_its_time time r.transponder (ap (λ (y : Afterwards). y.transponder) e ∙ only_time (lapse time t) (up_of f) u n i)

  pub frame_strode : (time draw : ℕ) (f : List ℕ) → Current t → NotFor t.address (up_of f)
      → (taking t time draw f).transponder ≡ lapse (taking t time draw f).transponder.time t
  frame_strode time draw f k n = strode (take time draw f) (answer t (take time draw f)) k n (came t (take time draw f))

  -- a frame that is taken after a lapse is answered as it would be without
  taken_alone : (now later draw : ℕ) (f : List ℕ) → t.time ≤ now → (taking (lapse now t) later draw f).number ≡ 0
      → taking (lapse now t) later draw f ≡ taking t later draw f
  unfolding taking taking_checks lapse
  taken_alone now later draw f h n = go (taking (lapse now t) later draw f) n (frame_came (lapse now t) later draw f)
    where
      go : (r : Took) → r.number ≡ 0 → CameTo (taking_checks now later draw f) (not_taken (lapse now t)) (took (lapse now t) later draw f) r
          → r ≡ taking t later draw f
      go r n (was_refused x z i g e) = absurd (z (sym (ap (λ (y : Took). y.number) e) ∙ n))
      go r n (was_done p g e) =
          let l : now ≤ later = ltb-false later now (p.off 15) in
          e
          ∙ ap (λ (u : Transponder). is_taken (comes draw u (up_of f))) (lapse_twice t now later l)
          ∙ end (not_taken t) (took t later draw f) all (p.off 1, (p.off 2, (le-ltb later t.time (omega (arith, h, l)), tt)))

  frame_then : (now draw : ℕ) (f : List ℕ) → NotFor t.address (up_of f) → (later other : ℕ) (g : List ℕ)
      → (taking (taking t now draw f).transponder later other g).number ≡ 0 → taking (taking t now draw f).transponder later other g ≡ taking t later other g
  unfolding lapse
  frame_then now draw f n later other g = go (answer t (take now draw f)) (came t (take now draw f))
    where
      go : (r : Afterwards) → Came t (take now draw f) r
          → (taking r.transponder later other g).number ≡ 0 → taking r.transponder later other g ≡ taking t later other g
      go r (refusal x z e) = rw e (λ z. refl)
      go r (did_take _ _ _ u p i e) = rw (e, only_time (lapse now t) (up_of f) u n i) (taken_alone now later other g p)

  -- what is shown of every state
  pub one_lapse : OneLapse t
  one_lapse =
      record {
        twice = λ now later h. lapse_twice t now later (omega (arith, h));
        again = λ now. lapse_twice t now now (omega arith);
        rising = lapses_rising t;
        frame = frame_then;
      }

-- ---- of every history
module _ (a : Aircraft) (m : (made a).number ≡ 0) (cs : List Call) where
  strides_leave : (fs : List Call) → All (Stride a.address) fs → after a (fs ++ cs) ≡ lapse (after a (fs ++ cs)).time (after a cs)
  unfolding All after
  strides_leave [] n = sym (lapse_still (after a cs) (always_current a cs))
  strides_leave (c ∷ fs) n =
      let t = after a (fs ++ cs) in
      let r = answer t c in
      let s : Stride t.address c = subst (λ (x : ℕ). Stride x c) (sym (always_kept a m (fs ++ cs)).same.address) n.0 in
      strode t c r (always_current a (fs ++ cs)) s (came t c)
      ∙ ap (lapse r.transponder.time) (strides_leave fs n.1)
      ∙ lapse_twice (after a cs) t.time r.transponder.time (time_never_goes_back t c)

  -- calls more leave the same where the same was left
  after_more : (xs ys more : List Call) → after a xs ≡ after a ys → after a (more ++ xs) ≡ after a (more ++ ys)
  unfolding after
  after_more xs ys [] e = e
  after_more xs ys (c ∷ more) e = ap (λ (t : Transponder). (answer t c).transponder) (after_more xs ys more e)

  clock : (fs : List Call) → (after a fs).time ≡ (told a fs).time
  clock fs = (always_told a m fs).clock

  at_told : (fs : List Call) → All (Stride a.address) fs → after a (fs ++ cs) ≡ lapse (told a (fs ++ cs)).time (after a cs)
  at_told fs n = strides_leave fs n ∙ ap (λ (now : ℕ). lapse now (after a cs)) (clock (fs ++ cs))

  still_told : lapse (told a cs).time (after a cs) ≡ after a cs
  still_told = rw (← clock cs) (lapse_still (after a cs) (always_current a cs))

  rising_told : (times : List ℕ) → Rising (told a cs).time times → lapses times (after a cs) ≡ lapse (last_of (told a cs).time times) (after a cs)
  rising_told times r = ap (lapses times) (sym still_told) ∙ lapses_rising (after a cs) (told a cs).time times r

  pub strides : Strides a cs
  strides =
      record {
        current = always_current a cs;
        still = still_told;
        rising = rising_told;
        frames = at_told;
        alike = λ fs gs more n k e.
            after_more (fs ++ cs) (gs ++ cs) more (at_told fs n ∙ ap (λ (now : ℕ). lapse now (after a cs)) e ∙ sym (at_told gs k));
      }
