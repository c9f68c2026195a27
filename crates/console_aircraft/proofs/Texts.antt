-- The texts of the aircraft's lines from what was read of a line and from the parts that the code lays one after the other.
use Prim.Native.Nat.{ℕ, ◌+◌, ◌≤◌, ◌<◌}
use native.Mathlib.Numerals.{add-one}
use native.Mathlib.Omega.{arith}
use mathlib.Core.Path.{◌≡◌, refl, sym, ap, ◌∙◌}
use mathlib.Core.Bool.{Bool, true, false, not, false≢true}
use mathlib.Core.List.{List, [], ◌∷◌}
use lib.Seq.{drop-cons}
use lib.ListN.{length, get_or, take, drop, replicate, drop_of_length-le}
use Rattle.std.specs.Prelude.{Option, Some, None, Result, Ok, Err, is_some, MatchOption}
use Rattle.lists.proofs.Over.{take_over}
use Rattle.refusals.specs.declared.refusal.Refusal.{Refusal}
use Rattle.refusals.specs.Refusals.{number_of, number_given}
use Rattle.refusals.proofs.Numbers.{not_done}
use Rattle.text_rules.specs.Put.{Put, decimal}
use Rattle.text_rules.specs.Plain.{plain}
use Rattle.text_rules.specs.Hex.{hex_of}
use Rattle.text_rules.proofs.Laid.{Still, still_next, still_end}
use Rattle.text_rules.proofs.Decimal.{decimal_length}
use Rattle.model_rules.specs.declared.state.Holder.{Holder}
use Rattle.model_rules.specs.declared.state.Sent.{Sent}
use Rattle.model_rules.specs.declared.state.Transponder.{Transponder}
use Rattle.model_rules.specs.Answers.{Made}
use Rattle.model_rules.specs.Said.{made_as, queued_as, took_as, bytes_of, reply_of, sent_as}
use Rattle.model_rules.specs.Calls as calls
use Rattle.console_rules.specs.Texts.{number_at, bytes_at, done_text, refusal_text, answer_text, Brief}
use Rattle.console_rules.specs.declared.names.FlightLine.{FlightLine}
use Rattle.console_rules.specs.Aircraft.{Showed, transponder_of, flight_said, made_said, model_said, queued_said, queue_said, took_said, send_said}
use Rattle.console_rules.specs.Aircraft.{sent_text, holder_text, timer_text, lock_text, locks_text, shown_text, state_text, state_said}

-- ---- what a line says, by the line that it is
pub flight_line : (a : Option Transponder) (ws : List (List ℕ)) {c d : FlightLine} {l m : List ℕ} {v : Option Transponder} {r : ℕ} → c ≡ d
    → Showed (flight_said d a ws) l m v r → Showed (flight_said c a ws) l m v r
flight_line a ws e p = rw e p

-- ---- the transponder that is lent, of zeros where there is no aircraft
pub lent_is : (a : Option Transponder) {t : Transponder} → MatchOption a (t ≡ calls.newborn 0 0 0 0 0) (λ x. t ≡ x) → t ≡ transponder_of a
lent_is None e = e
lent_is (Some t) e = e

-- ---- an aircraft that was made, or the one before
module _ (a : Option Transponder) {l m : List ℕ} {r : ℕ} where
  pub made_refused : (x : Result Transponder Refusal) {n : ℕ} {why : Refusal} → x ≡ Err why → n ≡ number_of why → Brief (refusal_text n) l m r
      → Showed (made_said a (made_as x)) l m a r
  unfolding made_said
  made_refused x {n} {why} e f p = rw (e, not_done why, ← f) (record { text_put = p.text_put; aircraft = refl; short = p.short })

  pub made_done : (x : Result Transponder Refusal) {t : Transponder} → x ≡ Ok t → Brief (refusal_text 0) l m r → Showed (made_said a (made_as x)) l m (Some t) r
  unfolding made_said
  made_done x e p = rw e (record { text_put = p.text_put; aircraft = refl; short = p.short })

pub ruleset making = (made_refused, made_done)

-- ---- the bytes of a reply are what stands at the front of what is sent
reply_taken : (s : Option Sent) → take (sent_as s).length (sent_as s).bytes ≡ reply_of s
reply_taken None = refl
reply_taken (Some s) = take_over (bytes_of s) (replicate 14 0)

sent_is : (s : Option Sent) → sent_text (take (sent_as s).length (sent_as s).bytes) ≡ sent_text (reply_of s)
sent_is s = ap sent_text (reply_taken s)

-- a reply that is sent has bytes
some_text : (b : List ℕ) {at q : ℕ} {l m : List ℕ} → 7 ≤ length b → Put (hex_of b) at l m q → Put (sent_text b) at l m q
unfolding sent_text
some_text [] h p = absurd (omega arith)
some_text (x ∷ b) h p = p

module _ {at q : ℕ} {l m : List ℕ} {s : Option Sent} where
  pub reply_none : s ≡ None → Put (plain "-") at l m q → Put (sent_text (reply_of s)) at l m q
  unfolding sent_text
  reply_none e p = rw e p

  pub reply_some : {x : Sent} {b : List ℕ} → s ≡ Some x → b ≡ bytes_of x → 7 ≤ length b → length b ≤ 14 → Put (hex_of b) at l m q
      → Put (sent_text (reply_of s)) at l m q × (length (reply_of s) ≤ 14)
  reply_some {x} {b} e f g h p = rw (e, ← f) (some_text b g p, h)

-- ---- `search by-words` finds what a line says from what was read of its words
module _ (a : Option Transponder) (ws : List (List ℕ)) {l m : List ℕ} where
  pub model_line : {v : Option Transponder} {r : ℕ} {x : Made} {address ac id fs ca : ℕ} → Showed (made_said a x) l m v r
      → x ≡ calls.making address ac id fs ca → address ≡ number_at 1 ws → ac ≡ number_at 2 ws → id ≡ number_at 3 ws → fs ≡ number_at 4 ws
      → ca ≡ number_at 5 ws → Showed (model_said a ws) l m v r
  unfolding model_said
  model_line p e b c d f g = rw (e, b, c, d, f, g) at p

  module _ {r : ℕ} {t u : Transponder} (lent : t ≡ transponder_of a) where
    pub queue_line : (q : Result (Unit {0}) Refusal) {n : ℕ} {message : List ℕ} → Brief (refusal_text n) l m r → n ≡ number_given q
        → queued_as q u ≡ calls.queuing t message → message ≡ bytes_at 1 ws → Showed (queue_said a ws) l m (Some u) r
    unfolding queue_said queued_said
    queue_line q p n e b = rw (← lent, ← b, ← e, ← n) (record { text_put = p.text_put; aircraft = refl; short = p.short })

    module _ {k : Result (Option Sent) Refusal} {time draw : ℕ} {frame : List ℕ} (e : took_as k u ≡ calls.taking t time draw frame)
        (b : time ≡ number_at 1 ws) (c : draw ≡ number_at 2 ws) (d : frame ≡ bytes_at 3 ws) where
      pub send_done : {s : Option Sent} → k ≡ Ok s → Brief (done_text (sent_text (reply_of s))) l m r → Showed (send_said a ws) l m (Some u) r
      unfolding send_said took_said answer_text
      send_done {s} h p =
          rw (← lent, ← b, ← c, ← d, ← e, h, sent_is s) (record { text_put = p.text_put; aircraft = refl; short = p.short })

      pub send_refused : {n : ℕ} {why : Refusal} → k ≡ Err why → n ≡ number_of why → Brief (refusal_text n) l m r → Showed (send_said a ws) l m (Some u) r
      unfolding send_said took_said answer_text
      send_refused {n} {why} h f p =
          rw (← lent, ← b, ← c, ← d, ← e, h, not_done why, ← f) (record { text_put = p.text_put; aircraft = refl; short = p.short })

pub ruleset by_words = (model_line, queue_line, send_done, send_refused)

-- ---- the holder, whose II has at most three digits
module _ {h : Option Holder} (e : h ≡ None) where
  pub nobody_put : {at q : ℕ} {l m : List ℕ} → Put (plain "-") at l m q → Put (holder_text h) at l m q
  unfolding holder_text
  nobody_put p = rw e p

  pub nobody_short : length (holder_text h) ≤ 3
  unfolding holder_text
  nobody_short = rw e (omega arith)

module _ {h : Option Holder} {x : Holder} (e : h ≡ Some x) where
  pub holder_put : {at q : ℕ} {l m : List ℕ} → Put (decimal x.ii) at l m q → Put (holder_text h) at l m q
  unfolding holder_text
  holder_put p = rw e p

  pub holder_short : x.ii < 256 → length (holder_text h) ≤ 3
  unfolding holder_text
  holder_short k = rw e (decimal_length 2 x.ii (omega arith))

pub ruleset holder = (nobody_put, nobody_short, holder_put, holder_short)

-- the parts of the transponder
pub shown_line : (a : Option Transponder) (t : Transponder) {l m : List ℕ} {r : ℕ} → MatchOption a (t ≡ calls.newborn 0 0 0 0 0) (λ x. t ≡ x)
    → Brief (state_text t) l m r → Showed (state_said a) l m a r
unfolding state_said
shown_line a t e p = rw (← lent_is a e) (record { text_put = p.text_put; aircraft = refl; short = p.short })

-- how many messages wait, as the call counted them
pub waiting_as_is : (time : ℕ) (h : Option Holder) (ts : List (Option ℕ)) {n k q : ℕ} {l m : List ℕ} → n ≡ k → Brief (shown_text time h n ts) l m q
    → Brief (shown_text time h k ts) l m q
waiting_as_is time h ts e p = rw e at p

-- ---- the codes of the timers, of which those before place i are put
module _ (ts : List (Option ℕ)) {i : ℕ} {t l m : List ℕ} {start at : ℕ} (s : Still t start l (locks_text i (drop i ts)) at m) (k : length ts ≡ 79) where
  pub locks_more : (d : Option ℕ) {o : List ℕ} {r : ℕ} → i < 79 → Put (lock_text i (get_or ts i d)) at m o r
      → Still t start l (locks_text (i + 1) (drop (i + 1) ts)) r o
  unfolding locks_text
  locks_more d h p = still_next s (rw (drop-cons ts i d (omega arith), add-one)) p

  pub locks_end : 79 ≤ i → at ≤ length m → Put t start l m at
  unfolding locks_text
  locks_end h e = let z : length ts ≤ i = omega arith in still_end s (rw (drop_of_length-le ts z)) e

-- ---- the code of a timer that locks, and nothing for one that does not
module _ (k : ℕ) (x : Option ℕ) {b : Bool} (e : is_some x ≡ not b) {at q : ℕ} {l m : List ℕ} where
  pub lock_none : b ≡ true → Put [] at l m q → Put (lock_text k x) at l m q
  unfolding lock_text
  lock_none h p = go x (e ∙ ap not h)
    where
      go : (x : Option ℕ) → is_some x ≡ false → Put (lock_text k x) at l m q
      go None f = p
      go (Some s) f = absurd (false≢true (sym f))

  pub lock_put : b ≡ false → Put (timer_text k) at l m q → Put (lock_text k x) at l m q
  unfolding lock_text
  lock_put h p = go x (e ∙ ap not h)
    where
      go : (x : Option ℕ) → is_some x ≡ true → Put (lock_text k x) at l m q
      go None f = absurd (false≢true f)
      go (Some s) f = p

pub ruleset lock = (lock_none, lock_put)
