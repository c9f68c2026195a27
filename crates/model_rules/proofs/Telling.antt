-- Theorem of Comm-B: in every history the clock, the messages that wait and who holds are those of the story that the calls tell, and so are all numbers.
use Prim.Native.Nat.{ℕ, ◌≤◌}
use native.Mathlib.Omega.{arith}
use mathlib.Core.Path.{◌≡◌, refl, sym, ap, ◌∙◌, subst}
use mathlib.Core.Bool.{Bool, true, false, ◌&&◌, not}
use mathlib.Core.List.{List, [], ◌∷◌, ◌++◌}
use lib.Dec.{eqb, leb}
use lib.ListN.{length, drop}
use borrow.Author.Tests.{eqb-true, ne_eqb, leb-false}
use Rattle.std.specs.Prelude.{Result, Ok, Err, Option, Some, None}
use Rattle.lists.specs.Lists.{pick}
use Rattle.lists.specs.Checks.{checked}
use Rattle.refusals.specs.declared.refusal.Refusal.{Refusal}
use Rattle.frames_rules.specs.Bytes.{number_of_bytes}
use Rattle.frames_rules.specs.Interrogations.{up_of}
use Rattle.frames_rules.specs.declared.answers.Up.{Up}
use Rattle.frames_rules.specs.declared.answers.Up.TheVariants as up
use Rattle.model_rules.specs.declared.state.Holder.{Holder}
use Rattle.model_rules.specs.declared.state.Transponder.{Transponder}
use Rattle.model_rules.specs.State.{held_since, waiting, messages_with, messages_after, with_holder, with_messages}
use Rattle.model_rules.specs.Lapse.{holder_after, lapse}
use Rattle.model_rules.specs.Lockout.{iis, commanded, lockout}
use Rattle.model_rules.specs.CommB.{asks_to_hold, nobody_else, reserve, closes, closeout}
use Rattle.model_rules.specs.Calls.{newborn, making, steps}
use Rattle.model_rules.specs.History.{Aircraft, made, Call, queue, take, Afterwards, answer, after}
use Rattle.model_rules.specs.Kept.{HolderIn, Kept}
use Rattle.model_rules.specs.Story.{Told, untold, lasts, holds_at, held_by}
use Rattle.model_rules.specs.Story.{with_message, moved, says_mbs, may_reserve, reserved_for, reserving, closes_out, closed, closing}
use Rattle.model_rules.specs.Seen.{interrogates, told_after, number_on, told}
use Rattle.model_rules.specs.Demands.{Holds}
use Rattle.model_rules.specs.Strides.{NotFor}
use Rattle.model_rules.proofs.Came.{Stepped, still, did_steps, Came, refusal, did_queue, did_take, came}
use Rattle.model_rules.proofs.Holding.{waiting_after, waiting_with_is}
use Rattle.model_rules.proofs.Keeping.{ranged_of, kept_lapse, always_kept}
use Rattle.model_rules.proofs.Numbers.{number_on_is}
use Rattle.model_rules.proofs.Lapsing.{holder_twice}
use Rattle.model_rules.proofs.Timing.{over_or_lasts, lasts_now}

-- ---- who holds at a time
-- what has lapsed is what does not last
lapsed_is : (now : ℕ) (h : Option Holder) → holder_after now h ≡ holds_at now h
lapsed_is now None = refl
lapsed_is now (Some h) = ap (λ (b : Bool). pick b None (Some h)) (over_or_lasts now h.since) ∙ go (lasts now h.since)
  where
    go : (b : Bool) → pick (not b) None (Some h) ≡ pick b (Some h) None
    go true = refl
    go false = refl

-- who holds later is told by who holds now
held_later : (now then : ℕ) (h : Option Holder) → then ≤ now → holds_at now (holds_at then h) ≡ holds_at now h
held_later now then h p =
    ap (holds_at now) (sym (lapsed_is then h)) ∙ sym (lapsed_is now (holder_after then h)) ∙ holder_twice then now p h ∙ lapsed_is now h

-- ---- by the transponder and by the story
pub record Agree (t : Transponder) (s : Told) : Type 0 where
  pub clock : t.time ≡ s.time
  pub messages : waiting t.messages ≡ s.messages
  pub holder : t.holder ≡ held_by s

pub lapse_agrees : (t : Transponder) (s : Told) (time : ℕ) → t.time ≤ time → Agree t s → Agree (lapse time t) (moved time s)
unfolding lapse
lapse_agrees t s time p g =
    let q = g.clock in
    record {
      clock = refl;
      messages = g.messages;
      holder = ap (holder_after time) g.holder ∙ lapsed_is time (held_by s) ∙ held_later time s.time s.reserved (omega arith);
    }

queue_agrees : (v : ℕ) (t : Transponder) (s : Told) → Agree t s → Agree (with_messages (messages_with v t.messages) t) (with_message v s)
queue_agrees v t s g =
    record {
      clock = g.clock;
      messages = waiting_with_is v t.messages ∙ ap (λ (w : List ℕ). w ++ (v ∷ [])) g.messages;
      holder = g.holder;
    }

-- ---- reservation: the transponder's rule and the story's are one, since a holder is II 1 to 15
pub some_wait : (m : ℕ) (ms : List ℕ) → not (eqb (length (m ∷ ms)) 0) ≡ true
some_wait m ms = ap not (ne_eqb (length (m ∷ ms)) 0 (λ q. omega arith))

asks_is : (di sd : ℕ) (w : List ℕ) (h : Option Holder) → HolderIn h
    → asks_to_hold di sd && not (eqb (length w) 0) && nobody_else (iis sd) h ≡ says_mbs 1 di sd && may_reserve (iis sd) w h
asks_is di sd [] h k = go (says_mbs 1 di sd) (leb 1 (iis sd))
  where
    go : (x y : Bool) → x && y && false && nobody_else (iis sd) h ≡ x && false
    go true true = refl
    go true false = refl
    go false y = refl
asks_is di sd (m ∷ ms) None k = rw (some_wait m ms) (go (says_mbs 1 di sd) (leb 1 (iis sd)))
  where
    go : (x y : Bool) → x && y && true && true ≡ x && y
    go true true = refl
    go true false = refl
    go false y = refl
asks_is di sd (m ∷ ms) (Some h) k = rw (some_wait m ms) (go (says_mbs 1 di sd) (leb 1 (iis sd)) refl (eqb h.ii (iis sd)) refl)
  where
    go : (x y : Bool) → leb 1 (iis sd) ≡ y → (z : Bool) → eqb h.ii (iis sd) ≡ z → x && y && true && z ≡ x && z
    go true true e z f = refl
    go true false e true f = let q = eqb-true h.ii (iis sd) f in let r = k.0 in absurd (omega (arith, leb-false, e))
    go true false e false f = refl
    go false y e z f = refl

reserve_agrees : (di sd : ℕ) (t : Transponder) (s : Told) → HolderIn t.holder → Agree t s → Agree (reserve di sd t) (reserving di sd s)
unfolding reserve reserving
reserve_agrees di sd t s k g =
    let e = asks_is di sd (waiting t.messages) t.holder k ∙ ap (λ (w : List ℕ). says_mbs 1 di sd && may_reserve (iis sd) w t.holder) g.messages
    ∙ ap (λ (h : Option Holder). says_mbs 1 di sd && may_reserve (iis sd) s.messages h) g.holder in
    rw e (go (says_mbs 1 di sd && may_reserve (iis sd) s.messages (held_by s)))
  where
    go : (b : Bool) → Agree (pick b (with_holder (held_since (iis sd) t.time) t) t) (pick b (reserved_for (iis sd) s) s)
    go true = record { clock = g.clock; messages = g.messages; holder = rw (lasts_now s.time, g.clock) }
    go false = g

-- ---- closeout
closes_is : (pc di sd : ℕ) (h : Option Holder) → closes pc di sd h ≡ closes_out pc di sd h
closes_is pc di sd None = refl
closes_is pc di sd (Some h) = refl

closeout_agrees : (pc di sd : ℕ) (t : Transponder) (s : Told) → Agree t s → Agree (closeout pc di sd t) (closing pc di sd s)
unfolding closeout closing
closeout_agrees pc di sd t s g =
    let e = closes_is pc di sd t.holder ∙ ap (closes_out pc di sd) g.holder in
    rw e (go (closes_out pc di sd (held_by s)))
  where
    go : (b : Bool) → Agree (pick b (with_messages (messages_after t.messages) (with_holder None t)) t) (pick b (closed s) s)
    go true = record { clock = g.clock; messages = waiting_after t.messages ∙ ap (drop 1) g.messages; holder = refl }
    go false = g

steps_agree : (pc di sd : ℕ) (t : Transponder) (s : Told) → HolderIn t.holder → Agree t s → Agree (steps pc di sd t) (closing pc di sd (reserving di sd s))
unfolding steps lockout commanded
steps_agree pc di sd t s k g =
    closeout_agrees pc di sd (reserve di sd (lockout pc di sd t)) (reserving di sd s)
    (reserve_agrees di sd (lockout pc di sd t) s k (record { clock = g.clock; messages = g.messages; holder = g.holder }))

-- ---- a frame
told_still : (address : ℕ) (x : Result Up Refusal) (s : Told) → NotFor address x → interrogates address x s ≡ s
told_still address (Ok (up.Selective uf pc rr di sd ma r)) s n = rw n
told_still address (Ok (up.AllCall pr ic cl r)) s n = refl
told_still address (Err r) s n = refl

stepped_agree : (t : Transponder) (x : Result Up Refusal) (u : Transponder) (s : Told) → Stepped t x u → HolderIn t.holder → Agree t s
    → Agree u (interrogates t.address x s)
stepped_agree t x u s (still n e) k g = subst (Agree u) (sym (told_still t.address x s n)) (subst (λ (w : Transponder). Agree w s) (sym e) g)
stepped_agree t x u s (did_steps uf pc rr di sd ma r l e) k g = rw (l, e) (steps_agree pc di sd t s k g)

-- ---- a new transponder
newborn_agrees : (a : Aircraft) → (made a).number ≡ 0 → Agree (made a).transponder untold
unfolding checked making newborn
newborn_agrees a m = rw (ranged_of a m) (record { clock = refl; messages = refl; holder = refl })

-- ---- one call more
module _ (a : Aircraft) where
  abbrev Next : Call → Told → Afterwards → Type 0
  Next c s r = Agree r.transponder (told_after a c r.number s)

  agree_next : (t : Transponder) → Kept a t → (s : Told) (c : Call) (r : Afterwards) → Came t c r → Agree t s → Next c s r
  agree_next t k s c r (refusal x z e) g = subst (Next c s) (sym e) (rw (ne_eqb x.number 0 z) g)
  agree_next t k s c r (did_queue m b l w e) g = subst (Next (queue m b) s) (sym e) (queue_agrees (number_of_bytes m) t s g)
  agree_next t k s c r (did_take time draw f u p i e) g =
      let l = kept_lapse a time t k in
      subst (Next (take time draw f) s) (sym e)
      (subst (λ (n : ℕ). Agree u (interrogates n (up_of f) (moved time s))) l.same.address
      (stepped_agree (lapse time t) (up_of f) u (moved time s) i l.holder (lapse_agrees t s time p g)))

  -- ---- of every history
  module _ (m : (made a).number ≡ 0) where
    number_is : (cs : List Call) → Agree (after a cs) (told a cs) → (c : Call) → (answer (after a cs) c).number ≡ number_on (told a cs) c
    number_is cs g = number_on_is (after a cs) (told a cs) g.clock (ap length g.messages)

    pub agree_always : (cs : List Call) → Agree (after a cs) (told a cs)
    unfolding after told
    agree_always [] = newborn_agrees a m
    agree_always (c ∷ cs) =
        let g = agree_always cs in
        rw (number_is cs g c) at (agree_next (after a cs) (always_kept a m cs) (told a cs) c (answer (after a cs) c) (came (after a cs) c) g)

    pub numbers : (cs : List Call) (c : Call) → (answer (after a cs) c).number ≡ number_on (told a cs) c
    numbers cs = number_is cs (agree_always cs)

    pub always_told : (cs : List Call) → Holds a cs
    unfolding lapse
    always_told cs =
        let g = agree_always cs in
        record {
          clock = g.clock;
          messages = g.messages;
          holder = λ now p. ap (holder_after now) g.holder ∙ lapsed_is now (held_by (told a cs)) ∙ held_later now (told a cs).time (told a cs).reserved p;
        }
