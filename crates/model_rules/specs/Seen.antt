-- What a caller has seen of a history, and from that alone the number of each call, the story of Comm-B and when a code was last commanded.
-- Nothing here knows the transponder.
use Rattle.std.specs.Prelude.{ℕ, ◌≤◌, Bool, false, ◌&&◌, ◌||◌, List, [], ◌∷◌, eqb, Option, Some, None, Result, Ok, Err}
use Rattle.lists.specs.Lists.{pick}
use Rattle.lists.specs.Checks.{given}
use Rattle.refusals.specs.declared.refusal.Refusal.{Refusal}
use Rattle.frames_rules.specs.Bytes.{number_of_bytes}
use Rattle.frames_rules.specs.Interrogations.{up_of}
use Rattle.frames_rules.specs.declared.answers.Up.{Up}
use Rattle.frames_rules.specs.declared.answers.Up.TheVariants as up
use Rattle.frames_rules.specs.declared.answers.Interrogator.{Interrogator}
use Rattle.frames_rules.specs.declared.answers.Interrogator.TheVariants.{II, SI}
use Rattle.model_rules.specs.Lockout.{command_of_pc, command_of_sd}
use Rattle.model_rules.specs.Calls.{laid_over}
use Rattle.model_rules.specs.History.{Aircraft, Call, queue, take}
use Rattle.model_rules.specs.Story.{Told, untold, lasts, with_message, moved, reserving, closing}
use Rattle.model_rules.specs.Numbers.{checks}

-- ---- the story of a history
-- a selective interrogation for this address reserves and closes out, in this order, and nothing else does
abbrev pub interrogates : ℕ → Result Up Refusal → Told → Told
interrogates address (Ok (up.Selective uf pc rr di sd ma remainder)) s = pick (laid_over address remainder) (closing pc di sd (reserving di sd s)) s
interrogates address (Ok (up.AllCall pr ic cl remainder)) s = s
interrogates address (Err r) s = s

-- after one call more that is not refused: a message waits; a frame moves time, and may interrogate
abbrev pub told_by : Aircraft → Call → Told → Told
told_by a (queue m b) s = with_message (number_of_bytes m) s
told_by a (take time draw f) s = interrogates a.address (up_of f) (moved time s)

-- after one call more with its number: "a refusal .. changes nothing"
abbrev pub told_after : Aircraft → Call → ℕ → Told → Told
told_after a c number s = pick (eqb number 0) (told_by a c s) s

-- the number that a call is given after a story
abbrev pub number_on : Told → Call → ℕ
number_on s c = given (checks s c)

-- the story of all calls; the newest stands first
unfoldable pub told : Aircraft → List Call → Told
told a [] = untold
told a (c ∷ cs) =
    let s = told a cs in
    told_after a c (number_on s c) s

-- ---- lockout
-- "II 0-15, SI 1-63"
abbrev pub ACode : Interrogator → Type 0
ACode (II n) = n ≤ 15
ACode (SI n) = (1 ≤ n) × (n ≤ 63)

-- whether a code is the same as one that may be nobody's
abbrev pub is_code : Interrogator → Option Interrogator → Bool
is_code (II n) (Some (II m)) = eqb n m
is_code (II n) (Some (SI m)) = false
is_code (II n) None = false
is_code (SI n) (Some (II m)) = false
is_code (SI n) (Some (SI m)) = eqb n m
is_code (SI n) None = false

-- whether PC, or DI and SD, command a code
abbrev pub commands_in : Interrogator → ℕ → ℕ → ℕ → Bool
commands_in c pc di sd = is_code c (command_of_pc pc) || is_code c (command_of_sd di sd)

-- whether a frame is a selective interrogation for this address that commands a code
abbrev pub commands : ℕ → Interrogator → Result Up Refusal → Bool
commands address c (Ok (up.Selective uf pc rr di sd ma remainder)) = laid_over address remainder && commands_in c pc di sd
commands address c (Ok (up.AllCall pr ic cl remainder)) = false
commands address c (Err r) = false

-- the time of the last command of a code, after one call more with its number: a frame that is not refused may be one
abbrev pub command_after : Aircraft → Interrogator → Call → ℕ → Option ℕ → Option ℕ
command_after a c (queue m b) number old = old
command_after a c (take time draw f) number old = pick (eqb number 0 && commands a.address c (up_of f)) (Some time) old

unfoldable pub last_command : Aircraft → Interrogator → List Call → Option ℕ
last_command a c [] = None
last_command a c (x ∷ cs) = command_after a c x (number_on (told a cs) x) (last_command a c cs)

-- "locks while less than 180 tenths have passed since its command"
abbrev pub locked_since : ℕ → Option ℕ → Bool
locked_since now None = false
locked_since now (Some s) = lasts now s
