-- Lockout: which timers a frame for this aircraft starts, and whether a code is locked.
use Rattle.std.specs.Prelude.{ℕ, Bool, true, false, ◌||◌, eqb, get_or, Option, Some, None}
use Rattle.lists.specs.Lists.{pick}
use Rattle.frames_rules.specs.Fields.{bits_to, value_at}
use Rattle.frames_rules.specs.declared.answers.Interrogator.{Interrogator}
use Rattle.frames_rules.specs.declared.answers.Interrogator.TheVariants.{II, SI}
use Rattle.model_rules.specs.declared.state.Timers.{Timers}
use Rattle.model_rules.specs.declared.state.Transponder.{Transponder}
use Rattle.model_rules.specs.State.{place_of, idle, started_by, with_timers}

-- ---- the fields of SD that lockout reads; SD is bits 17 to 32
-- "the II in bits 17-20"
abbrev pub iis : ℕ → ℕ
iis sd = value_at (bits_to 17 20) sd

-- "LOS (bit 26)"
abbrev pub los : ℕ → ℕ
los sd = value_at (bits_to 26 26) sd

-- "the SI in 17-22"
abbrev pub sis : ℕ → ℕ
sis sd = value_at (bits_to 17 22) sd

-- "LSS (bit 23)"
abbrev pub lss : ℕ → ℕ
lss sd = value_at (bits_to 23 23) sd

-- ---- commands
-- "PC 1 starts II 0"
abbrev pub command_of_pc : ℕ → Option Interrogator
command_of_pc pc = pick (eqb pc 1) (Some (II 0)) None

-- "with LOS .. starts the II in bits 17-20"
unfoldable pub started_by_los : ℕ → Option Interrogator
started_by_los sd = pick (eqb (los sd) 1) (Some (II (iis sd))) None

-- "with LSS .. starts the SI in 17-22; SI 0 starts none"
unfoldable pub started_by_lss : ℕ → Option Interrogator
started_by_lss sd = pick (eqb (lss sd) 1) (pick (eqb (sis sd) 0) None (Some (SI (sis sd)))) None

-- "DI 1 or 7 with LOS", "DI 3 with LSS"
unfoldable pub command_of_sd : ℕ → ℕ → Option Interrogator
command_of_sd di sd = pick (eqb di 1 || eqb di 7) (started_by_los sd) (pick (eqb di 3) (started_by_lss sd) None)

-- the timer of a code starts at the transponder's time
unfoldable pub commanded : Option Interrogator → Transponder → Transponder
commanded code t = with_timers (started_by code t.time t.timers) t

-- the lockout commands of a frame
unfoldable pub lockout : ℕ → ℕ → ℕ → Transponder → Transponder
lockout pc di sd t = commanded (command_of_sd di sd) (commanded (command_of_pc pc) t)

-- ---- whether a timer that has not lapsed locks
abbrev pub locks : Option ℕ → Bool
locks None = false
locks (Some s) = true

unfoldable pub locked_to : Interrogator → Timers → Bool
locked_to code t = locks (get_or t.list (place_of code) idle)
