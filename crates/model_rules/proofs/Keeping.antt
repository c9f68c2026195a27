-- What every history of calls keeps true of a transponder, and that its time never goes back.
use Prim.Native.Nat.{ℕ, ◌+◌, ◌≤◌, ◌<◌, ◌^◌}
use native.Mathlib.Omega.{arith}
use mathlib.Core.Path.{◌≡◌, refl, sym, ap, ◌∙◌, subst}
use mathlib.Core.Bool.{Bool, true, false, ◌&&◌}
use mathlib.Core.List.{List, [], ◌∷◌}
use lib.Dec.{eqb, leb}
use lib.ListN.{length, drop, length-append, length-drop, length-map}
use borrow.Author.Tests.{leb-true, not-false}
use Rattle.std.specs.Prelude.{Result, Option, Some, None}
use Rattle.lists.specs.Lists.{pick, All}
use Rattle.lists.specs.Checks.{Check, checked}
use Rattle.lists.proofs.Checks.{CameTo, was_refused, was_done, came_to}
use Rattle.lists.proofs.Tests.{and_true}
use Rattle.lists.proofs.Held.{all_snoc}
use Rattle.refusals.specs.declared.refusal.Refusal.{Refusal}
use Rattle.parity_rules.specs.Messages.{AreBytes}
use Rattle.frames_rules.specs.Bytes.{number_of_bytes}
use Rattle.frames_rules.specs.Interrogations.{up_of}
use Rattle.frames_rules.specs.declared.answers.Up.{Up}
use Rattle.frames_rules.proofs.Numbers.{number_lt}
use Rattle.model_rules.specs.declared.state.Holder.{Holder}
use Rattle.model_rules.specs.declared.state.Messages.{Messages}
use Rattle.model_rules.specs.declared.state.Timers.{Timers}
use Rattle.model_rules.specs.Answers.{Made}
use Rattle.model_rules.specs.declared.state.Transponder.{Transponder}
use Rattle.model_rules.specs.State.{held_since, waiting, waits, keeping, messages_with, messages_after, with_holder, with_messages}
use Rattle.model_rules.specs.Lapse.{is_over, timer_after, timers_after, holder_after, lapse}
use Rattle.model_rules.specs.Lockout.{iis, command_of_pc, command_of_sd, commanded, lockout}
use Rattle.model_rules.specs.CommB.{mbs, asks_to_hold, nobody_else, reserve, closes, closeout}
use Rattle.model_rules.specs.Calls.{newborn, make_ranged, making_checks, not_made, is_made, making, steps}
use Rattle.model_rules.specs.History.{Aircraft, made, Call, queue, Afterwards, answer, after}
use Rattle.model_rules.specs.Kept.{HolderIn, Of56Bits, As, Kept}
use Rattle.model_rules.proofs.Came.{of_pick, Stepped, still, did_steps, Came, refusal, did_queue, did_take, came}
use Rattle.model_rules.proofs.Timing.{started_by_length}
use Rattle.model_rules.proofs.Holding.{waiting_after, waiting_with_is, queued_held, lapse_held}

-- ---- a making that is not refused
pub ranged_of : (a : Aircraft) → (made a).number ≡ 0 → make_ranged a.address a.ac a.id a.fs a.ca ≡ true
unfolding making
ranged_of a n = go (made a) n (came_to not_made born cs refl)
  where
    cs : List Check
    cs = making_checks a.address a.ac a.id a.fs a.ca

    born : Made
    born = is_made (newborn a.address a.ac a.id a.fs a.ca)

    go : (r : Made) → r.number ≡ 0 → CameTo cs not_made born r → make_ranged a.address a.ac a.id a.fs a.ca ≡ true
    go r n (was_refused x z i g e) = absurd (z (sym (ap (λ (y : Made). y.number) e) ∙ n))
    go r n (was_done p g e) = not-false (make_ranged a.address a.ac a.id a.fs a.ca) (p.off 2)

kept_made : (a : Aircraft) → (made a).number ≡ 0 → Kept a (made a).transponder
unfolding checked making newborn All
kept_made a e =
    let r = ranged_of a e in
    rw r
    (record {
      same = record { address = refl; ac = refl; id = refl; fs = refl; ca = refl };
      ranged = r;
      held = refl;
      holder = tt;
      messages = tt;
      eight = omega arith;
      timers = refl;
    })

-- ---- the messages
all_drop : {A : Type 0} (P : A → Type 0) (v : List A) → All P v → All P (drop 1 v)
unfolding All
all_drop P [] h = tt
all_drop P (x ∷ v) h = h.1

number_in : (m : List ℕ) → AreBytes m → length m ≡ 7 → number_of_bytes m < 2 ^ 56
number_in m b e = rw e at (number_lt m b)

-- ---- each step keeps it
module _ (a : Aircraft) where
  as_made : (t : Transponder) (now : ℕ) (x : Timers) (h : Option Holder) (m : Messages) → As a t → As a (keeping t now x h m)
  as_made t now x h m k = record { address = k.address; ac = k.ac; id = k.id; fs = k.fs; ca = k.ca }

  kept_queue : (t : Transponder) (m : List ℕ) → AreBytes m → length m ≡ 7 → length (waiting t.messages) < 8 → Kept a t
      → Kept a (with_messages (messages_with (number_of_bytes m) t.messages) t)
  kept_queue t m b e l k =
      let w = waiting_with_is (number_of_bytes m) t.messages in
      let n : length (waiting (messages_with (number_of_bytes m) t.messages)) ≡ length (waiting t.messages) + 1 =
      ap length w ∙ length-append (waiting t.messages) (number_of_bytes m ∷ []) in
      record {
        same = as_made t _ _ _ _ k.same;
        ranged = k.ranged;
        held = queued_held (number_of_bytes m) t;
        holder = k.holder;
        messages = subst (All Of56Bits) (sym w) (all_snoc Of56Bits (waiting t.messages) (number_of_bytes m) k.messages (number_in m b e));
        eight = omega (arith, n, l);
        timers = k.timers;
      }

  holder_in : (now : ℕ) (h : Option Holder) → HolderIn h → HolderIn (holder_after now h)
  holder_in now None k = tt
  holder_in now (Some h) k = of_pick HolderIn (is_over now h.since) None (Some h) tt k

  pub kept_lapse : (now : ℕ) (t : Transponder) → Kept a t → Kept a (lapse now t)
  unfolding lapse timers_after
  kept_lapse now t k =
      record {
        same = as_made t _ _ _ _ k.same;
        ranged = k.ranged;
        held = lapse_held now t k.held;
        holder = holder_in now t.holder k.holder;
        messages = k.messages;
        eight = k.eight;
        timers = length-map t.timers.list (timer_after now) ∙ k.timers;
      }

  kept_lockout : (pc di sd : ℕ) (t : Transponder) → Kept a t → Kept a (lockout pc di sd t)
  unfolding lockout commanded
  kept_lockout pc di sd t k =
      record {
        same = as_made t _ _ _ _ k.same;
        ranged = k.ranged;
        held = k.held;
        holder = k.holder;
        messages = k.messages;
        eight = k.eight;
        timers =
            started_by_length (command_of_sd di sd) t.time _ ∙ started_by_length (command_of_pc pc) t.time t.timers ∙ k.timers;
      }

  iis_in : (di sd : ℕ) → asks_to_hold di sd ≡ true → (1 ≤ iis sd) × (iis sd ≤ 15)
  iis_in di sd e = (leb-true 1 (iis sd) (and_true (eqb di 1 && eqb (mbs sd) 1) (leb 1 (iis sd)) e).1, omega arith)

  kept_reserve : (di sd : ℕ) (t : Transponder) → Kept a t → Kept a (reserve di sd t)
  unfolding reserve
  kept_reserve di sd t k = go (asks_to_hold di sd) (waits t.messages) (nobody_else (iis sd) t.holder) refl refl
    where
      go : (x y z : Bool) → asks_to_hold di sd ≡ x → waits t.messages ≡ y → Kept a (pick (x && y && z) (with_holder (held_since (iis sd) t.time) t) t)
      go false y z p q = k
      go true false z p q = k
      go true true false p q = k
      go true true true p q =
          record {
            same = as_made t _ _ _ _ k.same;
            ranged = k.ranged;
            held = q;
            holder = iis_in di sd p;
            messages = k.messages;
            eight = k.eight;
            timers = k.timers;
          }

  kept_closeout : (pc di sd : ℕ) (t : Transponder) → Kept a t → Kept a (closeout pc di sd t)
  unfolding closeout
  kept_closeout pc di sd t k =
      let w = waiting_after t.messages in
      let n : length (waiting (messages_after t.messages)) ≤ 8 = rw (w, length-drop 1 (waiting t.messages)) (omega (arith, k.eight)) in
      of_pick (Kept a) (closes pc di sd t.holder) _ t
      (record {
        same = as_made t _ _ _ _ k.same;
        ranged = k.ranged;
        held = refl;
        holder = tt;
        messages = subst (All Of56Bits) (sym w) (all_drop Of56Bits (waiting t.messages) k.messages);
        eight = n;
        timers = k.timers;
      })
      k

  pub kept_steps : (pc di sd : ℕ) (t : Transponder) → Kept a t → Kept a (steps pc di sd t)
  unfolding steps
  kept_steps pc di sd t k = kept_closeout pc di sd (reserve di sd (lockout pc di sd t)) (kept_reserve di sd (lockout pc di sd t) (kept_lockout pc di sd t k))

  kept_stepped : (t : Transponder) (x : Result Up Refusal) (u : Transponder) → Stepped t x u → Kept a t → Kept a u
  kept_stepped t x u (still n e) k = subst (Kept a) (sym e) k
  kept_stepped t x u (did_steps uf pc rr di sd ma r l e) k = subst (Kept a) (sym e) (kept_steps pc di sd t k)

  kept_next : (t : Transponder) (c : Call) (r : Afterwards) → Came t c r → Kept a t → Kept a r.transponder
  kept_next t c r (refusal n z e) k = subst (λ (x : Afterwards). Kept a x.transponder) (sym e) k
  kept_next t c r (did_queue m b l w e) k = subst (λ (x : Afterwards). Kept a x.transponder) (sym e) (kept_queue t m b l w k)
  kept_next t c r (did_take time draw f u p i e) k =
      subst (λ (x : Afterwards). Kept a x.transponder) (sym e) (kept_stepped (lapse time t) (up_of f) u i (kept_lapse time t k))

  -- ---- of every history
  pub always_kept : (made a).number ≡ 0 → (cs : List Call) → Kept a (after a cs)
  unfolding after
  always_kept e [] = kept_made a e
  always_kept e (c ∷ cs) = kept_next (after a cs) c (answer (after a cs) c) (came (after a cs) c) (always_kept e cs)

-- ---- "time .. never backwards"
closeout_time : (pc di sd : ℕ) (t : Transponder) → (closeout pc di sd t).time ≡ t.time
unfolding closeout
closeout_time pc di sd t = of_pick (λ (u : Transponder). u.time ≡ t.time) (closes pc di sd t.holder) _ t refl refl

reserve_time : (di sd : ℕ) (t : Transponder) → (reserve di sd t).time ≡ t.time
unfolding reserve
reserve_time di sd t =
    of_pick (λ (u : Transponder). u.time ≡ t.time) (asks_to_hold di sd && waits t.messages && nobody_else (iis sd) t.holder) _ t refl refl

steps_time : (pc di sd : ℕ) (t : Transponder) → (steps pc di sd t).time ≡ t.time
unfolding steps lockout commanded
steps_time pc di sd t = closeout_time pc di sd (reserve di sd (lockout pc di sd t)) ∙ reserve_time di sd (lockout pc di sd t)

pub lapse_time : (now : ℕ) (t : Transponder) → (lapse now t).time ≡ now
unfolding lapse
lapse_time now t = refl

pub stepped_time : (t : Transponder) (x : Result Up Refusal) (u : Transponder) → Stepped t x u → u.time ≡ t.time
stepped_time t x u (still n e) = ap (λ (w : Transponder). w.time) e
stepped_time t x u (did_steps uf pc rr di sd ma r l e) = ap (λ (w : Transponder). w.time) e ∙ steps_time pc di sd t

forward : (t : Transponder) (c : Call) (r : Afterwards) → Came t c r → t.time ≤ r.transponder.time
forward t c r (refusal n z e) = let q : r.transponder.time ≡ t.time = ap (λ (x : Afterwards). x.transponder.time) e in omega (arith, q)
forward t c r (did_queue m b l w e) = let q : r.transponder.time ≡ t.time = ap (λ (x : Afterwards). x.transponder.time) e in omega (arith, q)
forward t c r (did_take time draw f u p i e) =
    let q : r.transponder.time ≡ time = ap (λ (x : Afterwards). x.transponder.time) e ∙ stepped_time (lapse time t) (up_of f) u i ∙ lapse_time time t in
    omega (arith, q, p)

pub time_never_goes_back : (t : Transponder) (c : Call) → t.time ≤ (answer t c).transponder.time
time_never_goes_back t c = forward t c (answer t c) (came t c)

-- "queuing moves no time"
pub queuing_moves_no_time : (t : Transponder) (m : List ℕ) (b : AreBytes m) → (answer t (queue m b)).transponder.time ≡ t.time
queuing_moves_no_time t m b = go (answer t (queue m b)) (came t (queue m b))
  where
    go : (r : Afterwards) → Came t (queue m b) r → r.transponder.time ≡ t.time
    go r (refusal n z e) = ap (λ (x : Afterwards). x.transponder.time) e
    go r (did_queue _ _ l w e) = ap (λ (x : Afterwards). x.transponder.time) e
