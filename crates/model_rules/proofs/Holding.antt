-- Theorems of Comm-B: a reservation implies that a message waits, and a frame removes at most one message.
use Prim.Native.Nat.{ℕ, zero, suc, ◌+◌, ◌-◌}
use native.Mathlib.Omega.{arith}
use mathlib.Core.Path.{◌≡◌, refl, sym, ap, ◌∙◌, subst}
use mathlib.Core.Bool.{true, ◌&&◌, not}
use mathlib.Core.List.{List, [], ◌∷◌, ◌++◌}
use mathlib.Core.Logic.{◌⊎◌, inl, inr}
use lib.ListN as list
use lib.ListN.{length, drop, length-append}
use borrow.Author.Tests.{ne_eqb}
use Rattle.std.specs.Prelude.{Result, Option, Some, None}
use Rattle.lists.proofs.Over.{take_over}
use Rattle.refusals.specs.declared.refusal.Refusal.{Refusal}
use Rattle.frames_rules.specs.Interrogations.{up_of}
use Rattle.frames_rules.specs.declared.answers.Up.{Up}
use Rattle.model_rules.specs.declared.state.Holder.{Holder}
use Rattle.model_rules.specs.declared.state.Messages.{Messages}
use Rattle.model_rules.specs.declared.state.Transponder.{Transponder}
use Rattle.model_rules.specs.State.{held_since, waiting, waits, messages_with, messages_after, with_holder, with_messages}
use Rattle.model_rules.specs.Lapse.{is_over, holder_after, lapse}
use Rattle.model_rules.specs.Lockout.{iis, commanded, lockout}
use Rattle.model_rules.specs.CommB.{asks_to_hold, nobody_else, reserve, closes, closeout}
use Rattle.model_rules.specs.Calls.{steps, taking}
use Rattle.model_rules.specs.History.{Afterwards, take}
use Rattle.model_rules.specs.Kept.{held_waits, HeldWaits}
use Rattle.model_rules.proofs.Came.{of_pick, Stepped, still, did_steps, Came, refusal, did_take, came}

-- ---- one message less
front : (k : ℕ) (xs ys : List ℕ) → list.take (length (list.take k xs)) (xs ++ ys) ≡ list.take k xs
front zero xs ys = refl
front (suc k) [] ys = refl
front (suc k) (x ∷ xs) ys = ap {B = List ℕ} (λ v. x ∷ v) (front k xs ys)

less : (l : List ℕ) (n : ℕ) → waiting (messages_after (record { list = l; n = n })) ≡ drop 1 (list.take n l)
unfolding messages_after
less [] zero = refl
less [] (suc n) = refl
less (x ∷ l) zero = refl
less (x ∷ l) (suc n) =
    let w : waits (record { list = x ∷ l; n = suc n }) ≡ true = ap not (ne_eqb (suc (length (list.take n l))) 0 (λ q. omega arith)) in
    let e : suc (length (list.take n l)) - 1 ≡ length (list.take n l) = omega arith in
    rw (w, e) (front n l (0 ∷ []))

pub waiting_after : (m : Messages) → waiting (messages_after m) ≡ drop 1 (waiting m)
waiting_after m = less m.list m.n

-- ---- one message more
pub waiting_with_is : (v : ℕ) (m : Messages) → waiting (messages_with v m) ≡ waiting m ++ (v ∷ [])
unfolding messages_with
waiting_with_is v m =
    let e : length (waiting m) + 1 ≡ length (waiting m ++ (v ∷ [])) = sym (length-append (waiting m) (v ∷ [])) in
    rw e (take_over (waiting m ++ (v ∷ [])) m.list)

-- ---- a frame removes at most one message
abbrev pub AtMostOne : Messages → Messages → Type 0
AtMostOne m k = (waiting k ≡ waiting m) ⊎ (waiting k ≡ drop 1 (waiting m))

closeout_one : (pc di sd : ℕ) (t : Transponder) → AtMostOne t.messages (closeout pc di sd t).messages
unfolding closeout
closeout_one pc di sd t =
    of_pick (λ (u : Transponder). AtMostOne t.messages u.messages) (closes pc di sd t.holder)
    (with_messages (messages_after t.messages) (with_holder None t)) t (inr (waiting_after t.messages)) (inl refl)

reserve_same : (di sd : ℕ) (t : Transponder) → (reserve di sd t).messages ≡ t.messages
unfolding reserve
reserve_same di sd t =
    of_pick (λ (u : Transponder). u.messages ≡ t.messages) (asks_to_hold di sd && waits t.messages && nobody_else (iis sd) t.holder)
    (with_holder (held_since (iis sd) t.time) t) t refl refl

lockout_same : (pc di sd : ℕ) (t : Transponder) → (lockout pc di sd t).messages ≡ t.messages
unfolding lockout commanded
lockout_same pc di sd t = refl

lapse_same : (now : ℕ) (t : Transponder) → (lapse now t).messages ≡ t.messages
unfolding lapse
lapse_same now t = refl

steps_one : (pc di sd : ℕ) (t : Transponder) → AtMostOne t.messages (steps pc di sd t).messages
unfolding steps
steps_one pc di sd t =
    subst (λ (m : Messages). AtMostOne m (closeout pc di sd (reserve di sd (lockout pc di sd t))).messages)
    (reserve_same di sd (lockout pc di sd t) ∙ lockout_same pc di sd t)
    (closeout_one pc di sd (reserve di sd (lockout pc di sd t)))

stepped_one : (t : Transponder) (x : Result Up Refusal) (u : Transponder) → Stepped t x u → AtMostOne t.messages u.messages
stepped_one t x u (still n e) = inl (ap (λ (w : Transponder). waiting w.messages) e)
stepped_one t x u (did_steps uf pc rr di sd ma r l e) = subst (λ (w : Transponder). AtMostOne t.messages w.messages) (sym e) (steps_one pc di sd t)

removes : (t : Transponder) (time draw : ℕ) (f : List ℕ) (r : Afterwards) → Came t (take time draw f) r → AtMostOne t.messages r.transponder.messages
removes t time draw f r (refusal n z e) = inl (ap (λ (x : Afterwards). waiting x.transponder.messages) e)
removes t time draw f r (did_take _ _ _ u p i e) =
    subst (λ (x : Afterwards). AtMostOne t.messages x.transponder.messages) (sym e)
    (subst (λ (m : Messages). AtMostOne m u.messages) (lapse_same time t) (stepped_one (lapse time t) (up_of f) u i))

pub a_frame_removes_at_most_one : (t : Transponder) (time draw : ℕ) (f : List ℕ) → AtMostOne t.messages (taking t time draw f).transponder.messages
a_frame_removes_at_most_one t time draw f = removes t time draw f _ (came t (take time draw f))

-- ---- held implies that a message waits: after a message more, and after a lapse
one_waits : (v : ℕ) (m : Messages) → waits (messages_with v m) ≡ true
one_waits v m =
    let e : length (waiting (messages_with v m)) ≡ length (waiting m) + 1 = ap length (waiting_with_is v m) ∙ length-append (waiting m) (v ∷ []) in
    ap not (ne_eqb (length (waiting (messages_with v m))) 0 (λ q. omega arith))

any_holder : (h : Option Holder) (m : Messages) → waits m ≡ true → held_waits h m ≡ true
any_holder None m w = refl
any_holder (Some h) m w = w

pub queued_held : (v : ℕ) (t : Transponder) → HeldWaits (with_messages (messages_with v t.messages) t)
queued_held v t = any_holder t.holder (messages_with v t.messages) (one_waits v t.messages)

holder_held : (now : ℕ) (h : Option Holder) (m : Messages) → held_waits h m ≡ true → held_waits (holder_after now h) m ≡ true
holder_held now None m w = refl
holder_held now (Some x) m w = of_pick (λ (h : Option Holder). held_waits h m ≡ true) (is_over now x.since) None (Some x) refl w

pub lapse_held : (now : ℕ) (t : Transponder) → HeldWaits t → HeldWaits (lapse now t)
unfolding lapse
lapse_held now t w = holder_held now t.holder t.messages w
