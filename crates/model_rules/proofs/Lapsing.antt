-- Theorems of lapses: two are one, in every state, and so are as many as come; and where all lasts, a lapse changes nothing.
use Prim.Native.Nat.{ℕ, ◌≤◌}
use mathlib.Core.Path.{◌≡◌, refl, sym, ap, ap₂, ◌∙◌}
use mathlib.Core.Bool.{Bool, true, false, not}
use mathlib.Core.List.{List, [], ◌∷◌, map-id}
use Rattle.std.specs.Prelude.{Option, Some, None}
use Rattle.lists.specs.Lists.{pick, All}
use Rattle.lists.proofs.Held.{all_map}
use Rattle.lists.proofs.Each.{image_same, image_through}
use Rattle.model_rules.specs.declared.state.Timers.{Timers}
use Rattle.model_rules.specs.declared.state.Holder.{Holder}
use Rattle.model_rules.specs.declared.state.Transponder.{Transponder}
use Rattle.model_rules.specs.State.{keeping}
use Rattle.model_rules.specs.Lapse.{is_over, timer_after, timers_after, holder_after, lapse}
use Rattle.model_rules.specs.Story.{lasts}
use Rattle.model_rules.specs.Strides.{Rising, last_of, lapses, TimerLastsAt, HolderLastsAt, Current}
use Rattle.model_rules.proofs.Timing.{over_or_lasts, over_later}

-- ---- once for a lock and for a reservation: `here` began at s, and of `gone` nothing is left
module _ {A : Type 0} (f : ℕ → A → A) (gone here : A) (s : ℕ)
    (stays : (n : ℕ) → f n gone ≡ gone) (goes : (n : ℕ) → f n here ≡ pick (is_over n s) gone here) where
  twice_of : (now later : ℕ) → now ≤ later → f later (f now here) ≡ f later here
  twice_of now later h = ap (f later) (goes now) ∙ go (is_over now s) refl
    where
      go : (b : Bool) → is_over now s ≡ b → f later (pick b gone here) ≡ f later here
      go true e = stays later ∙ sym (goes later ∙ ap (λ (b : Bool). pick b gone here) (over_later later now s h e))
      go false e = refl

  still_of : (now : ℕ) → lasts now s ≡ true → f now here ≡ here
  still_of now e = goes now ∙ ap (λ (b : Bool). pick b gone here) (over_or_lasts now s ∙ ap not e)

pub timer_twice : (now later : ℕ) → now ≤ later → (x : Option ℕ) → timer_after later (timer_after now x) ≡ timer_after later x
timer_twice now later h None = refl
timer_twice now later h (Some s) = twice_of timer_after None (Some s) s (λ n. refl) (λ n. refl) now later h

pub holder_twice : (now later : ℕ) → now ≤ later → (x : Option Holder) → holder_after later (holder_after now x) ≡ holder_after later x
holder_twice now later h None = refl
holder_twice now later h (Some x) = twice_of holder_after None (Some x) x.since (λ n. refl) (λ n. refl) now later h

timers_twice : (now later : ℕ) → now ≤ later → (x : Timers) → timers_after later (timers_after now x) ≡ timers_after later x
unfolding timers_after
timers_twice now later h x =
    ap (λ (l : List (Option ℕ)). record { list = l }) (image_through (timer_after later) (timer_after now) (timer_twice now later h) x.list)

-- ---- two lapses are one, whatever the state
pub lapse_twice : (t : Transponder) (now later : ℕ) → now ≤ later → lapse later (lapse now t) ≡ lapse later t
unfolding lapse
lapse_twice t now later h =
    ap₂ (λ (x : Timers) (y : Option Holder). keeping t later x y t.messages) (timers_twice now later h t.timers) (holder_twice now later h t.holder)

pub lapses_rising : (t : Transponder) (now : ℕ) (later : List ℕ) → Rising now later → lapses (now ∷ later) t ≡ lapse (last_of now later) t
lapses_rising t now [] r = refl
lapses_rising t now (next ∷ later) r = ap (lapses later) (lapse_twice t now next r.0) ∙ lapses_rising t next later r.1

-- ---- a lapse to a time at which all lasts changes nothing
timer_still : (now : ℕ) (x : Option ℕ) → TimerLastsAt now x → timer_after now x ≡ x
timer_still now None k = refl
timer_still now (Some s) k = still_of timer_after None (Some s) s (λ n. refl) (λ n. refl) now k.1

holder_still : (now : ℕ) (x : Option Holder) → HolderLastsAt now x → holder_after now x ≡ x
holder_still now None k = refl
holder_still now (Some x) k = still_of holder_after None (Some x) x.since (λ n. refl) (λ n. refl) now k.1

timers_still : (now : ℕ) (x : Timers) → All (TimerLastsAt now) x.list → timers_after now x ≡ x
unfolding timers_after
timers_still now x k =
    ap (λ (l : List (Option ℕ)). record { list = l })
    (image_same (timer_after now) (λ (y : Option ℕ). y)
    x.list
    (all_map (TimerLastsAt now) (λ (y : Option ℕ). timer_after now y ≡ y)
    (timer_still now)
    x.list k)
    ∙ map-id x.list)

pub lapse_still : (t : Transponder) → Current t → lapse t.time t ≡ t
unfolding lapse
lapse_still t k =
    ap₂ (λ (x : Timers) (y : Option Holder). keeping t t.time x y t.messages) (timers_still t.time t.timers k.timers)
    (holder_still t.time t.holder k.holder)
