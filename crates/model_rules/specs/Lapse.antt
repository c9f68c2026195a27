-- Time lapses: "each .. locks while less than 180 tenths have passed since its command", and a reservation "lasts as long as a lock".
-- What has lapsed leaves no trace.
use Rattle.std.specs.Prelude.{ℕ, ◌-◌, Bool, map, leb, Option, Some, None}
use Rattle.lists.specs.Lists.{pick}
use Rattle.model_rules.specs.declared.state.Timers.{Timers}
use Rattle.model_rules.specs.declared.state.Holder.{Holder}
use Rattle.model_rules.specs.declared.state.Transponder.{Transponder}
use Rattle.model_rules.specs.State.{with_time, with_timers, with_holder}

-- how long a lock and a reservation last, in tenths of a second
abbrev pub lasting : ℕ
lasting = 180

-- whether what began then is over by now
abbrev pub is_over : ℕ → ℕ → Bool
is_over now since = leb lasting (now - since)

abbrev pub timer_after : ℕ → Option ℕ → Option ℕ
timer_after now None = None
timer_after now (Some s) = pick (is_over now s) None (Some s)

unfoldable pub timers_after : ℕ → Timers → Timers
timers_after now t = record { list = map (timer_after now) t.list }

abbrev pub holder_after : ℕ → Option Holder → Option Holder
holder_after now None = None
holder_after now (Some h) = pick (is_over now h.since) None (Some h)

-- the transponder at a time: the one that only time has changed
unfoldable pub lapse : ℕ → Transponder → Transponder
lapse now t = with_holder (holder_after now t.holder) (with_timers (timers_after now t.timers) (with_time now t))
