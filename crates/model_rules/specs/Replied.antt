-- What the calls alone tell of replies: to which frame the aircraft sends which bytes, and to which none.
-- Nothing here knows the transponder.
use Rattle.std.specs.Prelude.{ℕ, ◌+◌, Bool, false, ◌&&◌, ◌||◌, not, List, ◌∷◌, eqb, leb, ltb, Option, Some, None, Result, Ok, Err}
use Rattle.lists.specs.Lists.{pick}
use Rattle.refusals.specs.declared.refusal.Refusal.{Refusal}
use Rattle.frames_rules.specs.Building.{a_reply, an_all_call_reply}
use Rattle.frames_rules.specs.Interrogations.{up_of}
use Rattle.frames_rules.specs.declared.answers.Up.{Up}
use Rattle.frames_rules.specs.declared.answers.Up.TheVariants as up
use Rattle.frames_rules.specs.Shared.{code_for, short_reply}
use Rattle.frames_rules.specs.declared.answers.Interrogator.{Interrogator}
use Rattle.model_rules.specs.Answers.{Sent}
use Rattle.model_rules.specs.Replies.{silence, sent_bytes, draws_below}
use Rattle.model_rules.specs.Calls.{laid_over}
use Rattle.model_rules.specs.History.{Aircraft, Call, take}
use Rattle.model_rules.specs.Story.{Told, held_by, shows_dr, shows_um, shows_mb}
use Rattle.model_rules.specs.Seen.{number_on, told, last_command, locked_since}

-- ---- selective interrogations
-- "RR 16 and above draws the long form"
abbrev pub format_drawn : ℕ → ℕ → ℕ
format_drawn uf rr = pick (leb 16 rr) (short_reply uf + 16) (short_reply uf)

-- "UF 4/20 draw AC, UF 5/21 draw ID", those it was made with
abbrev pub value_for : ℕ → Aircraft → ℕ
value_for uf a = pick (eqb uf 4 || eqb uf 20) a.ac a.id

-- the reply to UF, RR, DI and SD after a story
abbrev pub reply_on : Aircraft → Told → ℕ → ℕ → ℕ → ℕ → List ℕ
reply_on a s uf rr di sd =
    a_reply (format_drawn uf rr) a.fs (shows_dr s.messages) (shows_um di sd (held_by s)) (value_for uf a) (shows_mb rr di sd s.messages) a.address

-- ---- all-calls
-- "when not locked to its code and draw < 16/2^p"; PR 8 and above "ignores lockout"
abbrev pub answers_at : Aircraft → List Call → ℕ → ℕ → ℕ → Interrogator → Bool
answers_at a cs time draw pr c = (leb 8 pr || not (locked_since time (last_command a c cs))) && ltb draw (draws_below pr)

-- "SI 0 and CL 5 to 7 get no reply"
abbrev pub answers_to : Aircraft → List Call → ℕ → ℕ → ℕ → Option Interrogator → Bool
answers_to a cs time draw pr None = false
answers_to a cs time draw pr (Some c) = answers_at a cs time draw pr c

-- the answer to PR, IC and CL
abbrev pub call_on : Aircraft → List Call → ℕ → ℕ → ℕ → ℕ → ℕ → Sent
call_on a cs time draw pr ic cl = pick (answers_to a cs time draw pr (code_for cl ic)) (sent_bytes (an_all_call_reply a.ca a.address cl ic)) silence

-- ---- every frame, after a history
-- by what it is: a selective interrogation for this aircraft, an all-call for every aircraft, or neither; first the story after it
abbrev pub sent_on : Aircraft → Told → List Call → ℕ → ℕ → Result Up Refusal → Sent
sent_on a s cs time draw (Ok (up.Selective uf pc rr di sd ma remainder)) = pick (laid_over a.address remainder) (sent_bytes (reply_on a s uf rr di sd)) silence
sent_on a s cs time draw (Ok (up.AllCall pr ic cl remainder)) = pick (laid_over 0xFFFFFF remainder) (call_on a cs time draw pr ic cl) silence
sent_on a s cs time draw (Err r) = silence

-- a frame that is refused, for another address, of another format or of the wrong length gets nothing
unfoldable pub sent_to : Aircraft → List Call → ℕ → ℕ → List ℕ → Sent
sent_to a cs time draw f =
    pick (eqb (number_on (told a cs) (take time draw f)) 0) (sent_on a (told a (take time draw f ∷ cs)) cs time draw (up_of f)) silence
