-- Theorems of calls: what a call can come to, that a refusal changes nothing, that what is not for this aircraft changes time alone, and what a reply shows.
use Prim.Native.Nat.{ℕ, ◌≤◌, ◌<◌}
use mathlib.Core.Path.{◌≡◌, refl, sym, ap, ◌∙◌}
use mathlib.Core.Bool.{Bool, true, false}
use mathlib.Core.List.{List}
use lib.Dec.{eqb}
use lib.ListN.{length, replicate}
use borrow.Author.Tests.{eqb-true, leb-false, ltb-false, not-false}
use Rattle.std.specs.Prelude.{Some, Result, Ok, Err}
use Rattle.lists.specs.Lists.{pick}
use Rattle.lists.specs.Checks.{Check}
use Rattle.lists.proofs.Checks.{Passed, CameTo, was_refused, was_done, came_to}
use Rattle.refusals.specs.declared.refusal.Refusal.{Refusal}
use Rattle.parity_rules.specs.Messages.{AreBytes}
use Rattle.frames_rules.specs.Building.{replying}
use Rattle.frames_rules.specs.Bytes.{number_of_bytes}
use Rattle.frames_rules.specs.Formats.{length_of}
use Rattle.frames_rules.specs.Shared.{drawn}
use Rattle.frames_rules.specs.Interrogations.{up_of}
use Rattle.frames_rules.specs.declared.answers.Up.{Up}
use Rattle.frames_rules.specs.declared.answers.Up.TheVariants as up
use Rattle.model_rules.specs.declared.state.Transponder.{Transponder}
use Rattle.model_rules.specs.Answers.{Queued, Took, Went}
use Rattle.model_rules.specs.State.{waiting, messages_with, with_messages}
use Rattle.model_rules.specs.Lapse.{lapse}
use Rattle.model_rules.specs.Replies.{silence, sending, dr_of, um_of, mb_of, value_of, respond}
use Rattle.model_rules.specs.Calls.{queuing_checks, not_queued, is_queued, queuing, taking_checks, not_taken, is_taken, taking}
use Rattle.model_rules.specs.Calls.{steps, interrogated, time_alone, laid_over, selective_comes, all_call_comes, comes}
use Rattle.model_rules.specs.History.{Call, queue, take, Afterwards, after_queuing, after_taking, unchanged_by, leaving, answer}
use Rattle.model_rules.specs.Demands.{sent_by}
use Rattle.model_rules.specs.Strides.{NotFor}

-- what holds of both holds of either
pub of_pick : {A : Type 0} (P : A → Type 0) (b : Bool) (x y : A) → P x → P y → P (pick b x y)
of_pick P true x y p q = p
of_pick P false x y p q = q

-- what a frame does after the lapse: nothing, or the steps of a selective interrogation for this aircraft
pub data Stepped (t : Transponder) : Result Up Refusal → Transponder → Type 0 where
  still : {x : Result Up Refusal} {u : Transponder} → NotFor t.address x → u ≡ t → Stepped t x u
  did_steps : {u : Transponder} (uf pc rr di sd ma r : ℕ) → laid_over t.address r ≡ true → u ≡ steps pc di sd t
      → Stepped t (Ok (up.Selective uf pc rr di sd ma r)) u

-- ---- what a call can come to: it is refused and nothing changes; a message is queued; time lapses, and the frame comes
pub data Came (t : Transponder) : Call → Afterwards → Type 0 where
  refusal : {c : Call} {r : Afterwards} (x : Check) → (x.number ≡ 0 → ⊥) → r ≡ unchanged_by t x → Came t c r
  did_queue : {r : Afterwards} (m : List ℕ) (b : AreBytes m) → length m ≡ 7 → length (waiting t.messages) < 8
      → r ≡ leaving (with_messages (messages_with (number_of_bytes m) t.messages) t) → Came t (queue m b) r
  did_take : {r : Afterwards} (time draw : ℕ) (f : List ℕ) (u : Transponder) → t.time ≤ time → Stepped (lapse time t) (up_of f) u
      → r ≡ leaving u → Came t (take time draw f) r

-- ---- a frame comes
pub what_comes : (draw : ℕ) (t : Transponder) (x : Result Up Refusal) → Stepped t x (comes draw t x).transponder
unfolding comes selective_comes interrogated all_call_comes
what_comes draw t (Ok (up.Selective uf pc rr di sd ma r)) = go (laid_over t.address r) refl
  where
    go : (b : Bool) → laid_over t.address r ≡ b
        → Stepped t (Ok (up.Selective uf pc rr di sd ma r)) (pick b (interrogated uf pc rr di sd t) (time_alone t)).transponder
    go true e = did_steps uf pc rr di sd ma r e refl
    go false e = still e refl
what_comes draw t (Ok (up.AllCall pr ic cl r)) = still tt (of_pick (λ (w : Went). w.transponder ≡ t) (laid_over 0xFFFFFF r) _ (time_alone t) refl refl)
what_comes draw t (Err r) = still tt refl

-- ---- every call, by its table
abbrev pub took : Transponder → ℕ → ℕ → List ℕ → Took
took t time draw f = is_taken (comes draw (lapse time t) (up_of f))

pub frame_came : (t : Transponder) (time draw : ℕ) (f : List ℕ)
    → CameTo (taking_checks t.time time draw f) (not_taken t) (took t time draw f) (taking t time draw f)
unfolding taking
frame_came t time draw f = came_to (not_taken t) (took t time draw f) (taking_checks t.time time draw f) refl

in_time : (t : Transponder) (time draw : ℕ) (f : List ℕ) → Passed (taking_checks t.time time draw f) → t.time ≤ time
unfolding taking_checks
in_time t time draw f p = ltb-false time t.time (p.off 15)

pub came : (t : Transponder) (c : Call) → Came t c (answer t c)
unfolding queuing
came t (take time draw f) = go (taking t time draw f) (frame_came t time draw f)
  where
    go : (r : Took) → CameTo (taking_checks t.time time draw f) (not_taken t) (took t time draw f) r → Came t (take time draw f) (after_taking r)
    go r (was_refused x z i g e) = refusal x z (ap after_taking e)
    go r (was_done p g e) = did_take time draw f _ (in_time t time draw f p) (what_comes draw (lapse time t) (up_of f)) (ap after_taking e)
came t (queue m b) = go (queuing t m) (came_to (not_queued t) more cs refl)
  where
    cs : List Check
    cs = queuing_checks (length (waiting t.messages)) m

    more : Queued
    more = is_queued (with_messages (messages_with (number_of_bytes m) t.messages) t)

    go : (r : Queued) → CameTo cs (not_queued t) more r → Came t (queue m b) (after_queuing r)
    go r (was_refused x z i g e) = refusal x z (ap after_queuing e)
    go r (was_done p g e) =
        did_queue m b (eqb-true (length m) 7 (not-false (eqb (length m) 7) (p.off 1)))
        (leb-false 8 (length (waiting t.messages)) (p.off 6))
        (ap after_queuing e)

-- ---- "a refusal returns its number alone and changes nothing", time included
pub refusal_changes_nothing : (t : Transponder) (c : Call) → ((answer t c).number ≡ 0 → ⊥) → (answer t c).transponder ≡ t
refusal_changes_nothing t c n = go c (answer t c) n (came t c)
  where
    no_done : {r : Afterwards} (u : Transponder) → r ≡ leaving u → (r.number ≡ 0 → ⊥) → ⊥
    no_done u e n = n (ap (λ (r : Afterwards). r.number) e)

    go : (c : Call) (r : Afterwards) → (r.number ≡ 0 → ⊥) → Came t c r → r.transponder ≡ t
    go c r n (refusal x z e) = ap (λ (x : Afterwards). x.transponder) e
    go c r n (did_queue m b l w e) = absurd (no_done _ e n)
    go c r n (did_take time draw f u p i e) = absurd (no_done _ e n)

-- and nothing is sent
pub refusal_sends_nothing : (t : Transponder) (time draw : ℕ) (f : List ℕ) → ((taking t time draw f).number ≡ 0 → ⊥) → sent_by (taking t time draw f) ≡ silence
refusal_sends_nothing t time draw f n = go (taking t time draw f) n (frame_came t time draw f)
  where
    go : (r : Took) → (r.number ≡ 0 → ⊥) → CameTo (taking_checks t.time time draw f) (not_taken t) (took t time draw f) r → sent_by r ≡ silence
    go r n (was_refused x z i g e) = ap sent_by e
    go r n (was_done p g e) = absurd (n (ap (λ (x : Took). x.number) e))

-- ---- a frame that is not refused is in time, and comes
pub taken_is : (t : Transponder) (time draw : ℕ) (f : List ℕ) → (taking t time draw f).number ≡ 0
    → (t.time ≤ time) × (taking t time draw f ≡ took t time draw f)
taken_is t time draw f n = go (taking t time draw f) n (frame_came t time draw f)
  where
    go : (r : Took) → r.number ≡ 0 → CameTo (taking_checks t.time time draw f) (not_taken t) (took t time draw f) r
        → (t.time ≤ time) × (r ≡ took t time draw f)
    go r n (was_refused x z i g e) = absurd (z (sym (ap (λ (y : Took). y.number) e) ∙ n))
    go r n (was_done p g e) = (in_time t time draw f p, e)

-- a frame is for others: a selective interrogation over another address, an all-call not over FFFFFF, of another format or of the wrong length for it
abbrev pub ForOthers : ℕ → Result Up Refusal → Type 0
ForOthers address (Ok (up.Selective uf pc rr di sd ma r)) = laid_over address r ≡ false
ForOthers address (Ok (up.AllCall pr ic cl r)) = laid_over 0xFFFFFF r ≡ false
ForOthers address (Err r) = Unit {0}

passes_by : (draw : ℕ) (t : Transponder) (x : Result Up Refusal) → ForOthers t.address x → comes draw t x ≡ time_alone t
unfolding comes selective_comes all_call_comes
passes_by draw t (Ok (up.Selective uf pc rr di sd ma r)) l = rw l
passes_by draw t (Ok (up.AllCall pr ic cl r)) l = rw l
passes_by draw t (Err r) l = refl

-- it changes time alone, and gets no reply
pub for_others : (t : Transponder) (time draw : ℕ) (f : List ℕ) → (taking t time draw f).number ≡ 0 → ForOthers t.address (up_of f)
    → taking t time draw f ≡ is_taken (time_alone (lapse time t))
unfolding lapse
for_others t time draw f n l = (taken_is t time draw f n).1 ∙ ap is_taken (passes_by draw (lapse time t) (up_of f) l)

-- ---- DR, UM and MB of a reply are those of the state after the closeout
pub reply_after_closeout : (uf pc rr di sd df : ℕ) (t : Transponder) → drawn uf rr ≡ Some df
    → let u = (interrogated uf pc rr di sd t).transponder in
    (interrogated uf pc rr di sd t).sent ≡ sending
    (replying df u.fs (dr_of u.messages) (um_of di sd u.holder) (value_of uf u) (mb_of rr di sd u.messages) u.address (replicate (length_of df) 0))
unfolding interrogated respond
reply_after_closeout uf pc rr di sd df t e = rw e

pub state_after_closeout : (uf pc rr di sd : ℕ) (t : Transponder) → (interrogated uf pc rr di sd t).transponder ≡ steps pc di sd t
unfolding interrogated
state_after_closeout uf pc rr di sd t = refl
