-- The state of a transponder: its timers and messages, and the state with one of them changed.
use Rattle.std.specs.Prelude.{ℕ, ◌+◌, ◌-◌, Bool, not, List, [], ◌∷◌, ◌++◌, eqb, length, take, drop, set, get_or, Option, Some, None}
use Rattle.lists.specs.Lists.{pick, over}
use Rattle.frames_rules.specs.declared.answers.Interrogator.{Interrogator}
use Rattle.frames_rules.specs.declared.answers.Interrogator.TheVariants.{II, SI}
use Rattle.model_rules.specs.declared.state.Timers.{Timers}
use Rattle.model_rules.specs.declared.state.Holder.{Holder}
use Rattle.model_rules.specs.declared.state.Messages.{Messages}
use Rattle.model_rules.specs.declared.state.Transponder.{Transponder}

-- ---- "each of 79 timers (II 0-15, SI 1-63)"
-- the place of a code's timer
abbrev pub place_of : Interrogator → ℕ
place_of (II n) = n
place_of (SI n) = 15 + n

-- a timer that was never commanded
abbrev pub idle : Option ℕ
idle = None

-- the timer at a place starts at a time; no timer does at a place beyond the last
unfoldable pub started : ℕ → ℕ → Timers → Timers
started place time t = record { list = set t.list place (Some time) }

-- the timer of a code starts at a time; nobody's code has none
abbrev pub started_by : Option Interrogator → ℕ → Timers → Timers
started_by None time t = t
started_by (Some c) time t = started (place_of c) time t

-- ---- who holds
-- an II, since a time
abbrev pub held_since : ℕ → ℕ → Option Holder
held_since ii since = Some (record { ii = ii; since = since })

-- ---- messages
-- the messages that wait, the oldest first
abbrev pub waiting : Messages → List ℕ
waiting m = take m.n m.list

-- whether one waits
abbrev pub waits : Messages → Bool
waits m = not (eqb (length (waiting m)) 0)

-- the first message, "zeros if none"
abbrev pub first_of : Messages → ℕ
first_of m = get_or (waiting m) 0 0

-- one message more, as the youngest
unfoldable pub messages_with : ℕ → Messages → Messages
messages_with v m = record { list = over (waiting m ++ (v ∷ [])) m.list; n = length (waiting m) + 1 }

-- the first message goes, and the others move up; nothing changes when none waits
unfoldable pub messages_after : Messages → Messages
messages_after m = pick (waits m) (record { list = drop 1 m.list ++ (0 ∷ []); n = length (waiting m) - 1 }) m

-- ---- a transponder with one of its parts changed; what it was made with stays
-- the one place that names every part
abbrev pub keeping : Transponder → ℕ → Timers → Option Holder → Messages → Transponder
keeping t now timers holder messages =
    record {
      address = t.address;
      ac = t.ac;
      id = t.id;
      fs = t.fs;
      ca = t.ca;
      time = now;
      timers = timers;
      holder = holder;
      messages = messages;
    }

abbrev pub with_time : ℕ → Transponder → Transponder
with_time x t = keeping t x t.timers t.holder t.messages

abbrev pub with_timers : Timers → Transponder → Transponder
with_timers x t = keeping t t.time x t.holder t.messages

abbrev pub with_holder : Option Holder → Transponder → Transponder
with_holder x t = keeping t t.time t.timers x t.messages

abbrev pub with_messages : Messages → Transponder → Transponder
with_messages x t = keeping t t.time t.timers t.holder x
