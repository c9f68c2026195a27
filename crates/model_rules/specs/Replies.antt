-- Replies: what a transponder sends, to a selective interrogation and to an all-call.
use Rattle.std.specs.Prelude.{ℕ, ◌+◌, ◌-◌, ◌*◌, ◌/◌, ◌^◌, Bool, false, ◌&&◌, ◌||◌, not, List, eqb, leb, ltb, length, replicate, Option, Some, None}
use Rattle.lists.specs.Lists.{pick, over}
use Rattle.frames_rules.specs.Fields.{bits_to, value_at}
use Rattle.frames_rules.specs.Answers.{Building}
use Rattle.frames_rules.specs.Building.{replying, all_call_replying}
use Rattle.frames_rules.specs.Shared.{code_for}
use Rattle.frames_rules.specs.Formats.{length_of}
use Rattle.frames_rules.specs.Shared.{drawn}
use Rattle.frames_rules.specs.declared.answers.Interrogator.{Interrogator}
use Rattle.model_rules.specs.declared.state.Holder.{Holder}
use Rattle.model_rules.specs.declared.state.Messages.{Messages}
use Rattle.model_rules.specs.Answers.{Sent}
use Rattle.model_rules.specs.declared.state.Transponder.{Transponder}
use Rattle.model_rules.specs.State.{waits, first_of}
use Rattle.model_rules.specs.Lockout.{locked_to}

-- ---- sending
-- no reply
abbrev pub silence : Sent
silence = record { length = 0; bytes = replicate 14 0 }

-- the bytes of a frame, and zeros behind them
abbrev pub sent_bytes : List ℕ → Sent
sent_bytes b = record { length = length b; bytes = over b (replicate 14 0) }

-- a frame that could be built; a transponder that no call has made may have numbers that no frame can carry, and is silent
unfoldable pub sending : Building → Sent
sending o = pick (eqb o.number 0) (sent_bytes o.output) silence

-- ---- Comm-B in a reply
-- "DR is 1 while a message waits, else 0"
abbrev pub dr_of : Messages → ℕ
dr_of m = pick (waits m) 1 0

-- "RSS (.. bits 27-28)"
abbrev pub rss : ℕ → ℕ
rss sd = value_at (bits_to 27 28) sd

-- "RSS (DI 1, bits 27-28) is 2 or 3"
abbrev pub hides_um : ℕ → ℕ → Bool
hides_um di sd = eqb di 1 && leb 2 (rss sd)

-- "UM is 4×holder+1 while held, zero otherwise or when RSS is 2 or 3"
abbrev pub um_of : ℕ → ℕ → Option Holder → ℕ
um_of di sd None = 0
um_of di sd (Some h) = pick (hides_um di sd) 0 (4 * h.ii + 1)

-- "BDS2 is RRS, bits 21-24 for DI 7, 24-27 for DI 3, else zero"
abbrev pub bds2 : ℕ → ℕ → ℕ
bds2 di sd = pick (eqb di 7) (value_at (bits_to 21 24) sd) (pick (eqb di 3) (value_at (bits_to 24 27) sd) 0)

-- "RR 16 with BDS2 zero delivers the first message, zeros if none; other registers read zero"
abbrev pub mb_of : ℕ → ℕ → ℕ → Messages → ℕ
mb_of rr di sd m = pick (eqb rr 16 && eqb (bds2 di sd) 0) (first_of m) 0

-- "UF 4/20 draw AC, UF 5/21 draw ID"
abbrev pub value_of : ℕ → Transponder → ℕ
value_of uf t = pick (eqb uf 4 || eqb uf 20) t.ac t.id

-- ---- the reply to a selective interrogation
abbrev pub sending_format : ℕ → ℕ → ℕ → ℕ → Transponder → Option ℕ → Sent
sending_format uf rr di sd t None = silence
sending_format uf rr di sd t (Some df) =
    sending
    (replying df t.fs (dr_of t.messages) (um_of di sd t.holder) (value_of uf t) (mb_of rr di sd t.messages) t.address (replicate (length_of df) 0))

unfoldable pub respond : ℕ → ℕ → ℕ → ℕ → Transponder → Sent
respond uf rr di sd t = sending_format uf rr di sd t (drawn uf rr)

-- ---- "an all-call is answered when not locked to its code and draw < 16/2^p"
-- 16/2^p: "PR 0-4 means p = PR; 8-12 means p = PR−8 and ignores lockout; others get no reply"
unfoldable pub draws_below : ℕ → ℕ
draws_below pr = pick (leb pr 4) (16 / 2 ^ pr) (pick (leb 8 pr && leb pr 12) (16 / 2 ^ (pr - 8)) 0)

-- whether the timer of its code lets it through
abbrev pub free : ℕ → Interrogator → Transponder → Bool
free pr c t = leb 8 pr || not (locked_to c t.timers)

abbrev pub answers_free : ℕ → ℕ → Interrogator → Transponder → Bool
answers_free pr draw c t = free pr c t && ltb draw (draws_below pr)

-- "SI 0 and CL 5 to 7 get no reply"
abbrev pub answers_code : ℕ → ℕ → Transponder → Option Interrogator → Bool
answers_code pr draw t None = false
answers_code pr draw t (Some c) = answers_free pr draw c t

unfoldable pub answers : ℕ → ℕ → ℕ → ℕ → Transponder → Bool
answers pr ic cl draw t = answers_code pr draw t (code_for cl ic)

-- the reply is DF 11 over 16×CL+IC
unfoldable pub answer_all_call : ℕ → ℕ → ℕ → ℕ → Transponder → Sent
answer_all_call pr ic cl draw t =
    pick (answers pr ic cl draw t) (sending (all_call_replying t.ca t.address cl ic (replicate 7 0))) silence
