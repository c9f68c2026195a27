-- Strides of the clock: lapses one after the other, frames that only move time, and what is shown of them: "two short waits are one long one".
use Rattle.std.specs.Prelude.{ℕ, ◌≤◌, ◌≡◌, true, false, List, [], ◌∷◌, ◌++◌, Result, Ok, Err, Option, Some, None}
use Rattle.lists.specs.Lists.{All}
use Rattle.refusals.specs.declared.refusal.Refusal.{Refusal}
use Rattle.frames_rules.specs.Interrogations.{up_of}
use Rattle.frames_rules.specs.declared.answers.Up.{Up}
use Rattle.frames_rules.specs.declared.answers.Up.TheVariants as up
use Rattle.model_rules.specs.declared.state.Holder.{Holder}
use Rattle.model_rules.specs.declared.state.Transponder.{Transponder}
use Rattle.model_rules.specs.Lapse.{lapse}
use Rattle.model_rules.specs.Calls.{laid_over, taking}
use Rattle.model_rules.specs.History.{Aircraft, Call, queue, take, after}
use Rattle.model_rules.specs.Story.{lasts}
use Rattle.model_rules.specs.Seen.{told}

-- ---- times
-- none of the times is before the one before it
abbrev pub Rising : ℕ → List ℕ → Type 0
Rising now [] = Unit {0}
Rising now (next ∷ later) = (now ≤ next) × Rising next later

-- the last of a time and those after it
abbrev pub last_of : ℕ → List ℕ → ℕ
last_of now [] = now
last_of now (next ∷ later) = last_of next later

-- a lapse to each of the times, the first at the front
abbrev pub lapses : List ℕ → Transponder → Transponder
lapses [] t = t
lapses (now ∷ later) t = lapses later (lapse now t)

-- ---- a state in which nothing has lapsed
-- what began is not after now, and "less than 180 tenths have passed since"
abbrev pub LastsAt : ℕ → ℕ → Type 0
LastsAt now since = (since ≤ now) × (lasts now since ≡ true)

abbrev pub TimerLastsAt : ℕ → Option ℕ → Type 0
TimerLastsAt now None = Unit {0}
TimerLastsAt now (Some s) = LastsAt now s

abbrev pub HolderLastsAt : ℕ → Option Holder → Type 0
HolderLastsAt now None = Unit {0}
HolderLastsAt now (Some h) = LastsAt now h.since

-- every lock and the reservation last at the transponder's own time
pub record Current (t : Transponder) : Type 0 where
  pub timers : All (TimerLastsAt t.time) t.timers.list
  pub holder : HolderLastsAt t.time t.holder

-- ---- frames that only move time
-- what came is no selective interrogation for an address
abbrev pub NotFor : ℕ → Result Up Refusal → Type 0
NotFor address (Ok (up.Selective uf pc rr di sd ma r)) = laid_over address r ≡ false
NotFor address (Ok (up.AllCall pr ic cl r)) = Unit {0}
NotFor address (Err r) = Unit {0}

-- the call is a frame for another address, an all-call, or one of another format or of the wrong length
abbrev pub Stride : ℕ → Call → Type 0
Stride address (queue m b) = ⊥
Stride address (take time draw f) = NotFor address (up_of f)

-- ---- what is shown of every state
-- a lapse to one time and then to a later one is the lapse to the later one, to the same one is one alone, and rising times leave what the last leaves;
-- after a frame that only moves time, taken or refused, a frame that is taken is answered as it would be alone, and leaves the same
pub record OneLapse (t : Transponder) : Type 0 where
  pub twice : (now later : ℕ) → now ≤ later → lapse later (lapse now t) ≡ lapse later t
  pub again : (now : ℕ) → lapse now (lapse now t) ≡ lapse now t
  pub rising : (now : ℕ) (later : List ℕ) → Rising now later → lapses (now ∷ later) t ≡ lapse (last_of now later) t
  pub frame : (now draw : ℕ) (f : List ℕ) → NotFor t.address (up_of f)
      → (later other : ℕ) (g : List ℕ) → (taking (taking t now draw f).transponder later other g).number ≡ 0
      → taking (taking t now draw f).transponder later other g ≡ taking t later other g

-- ---- what is shown of every history
-- nothing in it has lapsed; a lapse to its own time changes nothing, and rising times from there on, none included, leave what the last leaves;
-- frames that only move time, as many as come and refused ones among them, leave what one lapse to the last time leaves; and two crews that come to
-- one time by different frames of that kind have the same transponder then and after any calls more
pub record Strides (a : Aircraft) (cs : List Call) : Type 0 where
  pub current : Current (after a cs)
  pub still : lapse (told a cs).time (after a cs) ≡ after a cs
  pub rising : (times : List ℕ) → Rising (told a cs).time times → lapses times (after a cs) ≡ lapse (last_of (told a cs).time times) (after a cs)
  pub frames : (fs : List Call) → All (Stride a.address) fs → after a (fs ++ cs) ≡ lapse (told a (fs ++ cs)).time (after a cs)
  pub alike : (fs gs more : List Call) → All (Stride a.address) fs → All (Stride a.address) gs
      → (told a (fs ++ cs)).time ≡ (told a (gs ++ cs)).time → after a (more ++ (fs ++ cs)) ≡ after a (more ++ (gs ++ cs))
