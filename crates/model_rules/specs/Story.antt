-- The story of Comm-B as the calls alone tell it: which messages wait, who reserved the first of them and when, and what a reply shows of that.
-- Nothing here knows the transponder.
use Rattle.std.specs.Prelude.{ℕ, ◌+◌, ◌-◌, ◌*◌, Bool, false, ◌&&◌, List, [], ◌∷◌, ◌++◌, eqb, leb, ltb, drop, Option, Some, None}
use Rattle.lists.specs.Lists.{pick}
use Rattle.model_rules.specs.declared.state.Holder.{Holder}
use Rattle.model_rules.specs.State.{held_since}
use Rattle.model_rules.specs.Lockout.{iis}
use Rattle.model_rules.specs.CommB.{mbs}
use Rattle.model_rules.specs.Replies.{rss, bds2}

-- the time of the last frame that was taken; the messages that wait, the oldest first; and the last reservation that was commanded and not closed out,
-- whether it still lasts or not
pub record Told : Type 0 where
  pub time : ℕ
  pub messages : List ℕ
  pub reserved : Option Holder

-- before any call
abbrev pub untold : Told
untold = record { time = 0; messages = []; reserved = None }

-- ---- who holds
-- "while less than 180 tenths have passed since its command"
abbrev pub lasts : ℕ → ℕ → Bool
lasts now since = ltb (now - since) 180

-- who holds at a time by what was commanded: a reservation "lasts as long as a lock"
abbrev pub holds_at : ℕ → Option Holder → Option Holder
holds_at now None = None
holds_at now (Some h) = pick (lasts now h.since) (Some h) None

-- who holds at the story's time
abbrev pub held_by : Told → Option Holder
held_by s = holds_at s.time s.reserved

-- ---- calls that are not refused
-- a message more waits, as the youngest; "queuing moves no time"
abbrev pub with_message : ℕ → Told → Told
with_message v s = record { time = s.time; messages = s.messages ++ (v ∷ []); reserved = s.reserved }

-- a frame moves time
abbrev pub moved : ℕ → Told → Told
moved time s = record { time = time; messages = s.messages; reserved = s.reserved }

-- "DI 1 with MBS"
abbrev pub says_mbs : ℕ → ℕ → ℕ → Bool
says_mbs n di sd = eqb di 1 && eqb (mbs sd) n

-- "for IIS 1-15 when a message waits and nobody else holds it"
abbrev pub may_reserve : ℕ → List ℕ → Option Holder → Bool
may_reserve ii [] h = false
may_reserve ii (m ∷ ms) None = leb 1 ii
may_reserve ii (m ∷ ms) (Some h) = eqb h.ii ii

-- the first message is an II's from now on
abbrev pub reserved_for : ℕ → Told → Told
reserved_for ii s = record { time = s.time; messages = s.messages; reserved = held_since ii s.time }

-- "DI 1 with MBS 1 reserves; the holder's repeat restarts it"
unfoldable pub reserving : ℕ → ℕ → Told → Told
reserving di sd s = pick (says_mbs 1 di sd && may_reserve (iis sd) s.messages (held_by s)) (reserved_for (iis sd) s) s

-- "MBS 2 from the holder, or PC 4 while nobody holds it"
abbrev pub closes_out : ℕ → ℕ → ℕ → Option Holder → Bool
closes_out pc di sd None = eqb pc 4
closes_out pc di sd (Some h) = says_mbs 2 di sd && eqb (iis sd) h.ii

-- "removes the first message and the reservation"
abbrev pub closed : Told → Told
closed s = record { time = s.time; messages = drop 1 s.messages; reserved = None }

-- "who holds is read once .. for both closeouts"
unfoldable pub closing : ℕ → ℕ → ℕ → Told → Told
closing pc di sd s = pick (closes_out pc di sd (held_by s)) (closed s) s

-- ---- what a reply shows
-- "DR is 1 while a message waits, else 0"
abbrev pub shows_dr : List ℕ → ℕ
shows_dr [] = 0
shows_dr (m ∷ ms) = 1

-- "UM is 4×holder+1 while held, zero otherwise or when RSS (DI 1, bits 27-28) is 2 or 3"
abbrev pub shows_um : ℕ → ℕ → Option Holder → ℕ
shows_um di sd None = 0
shows_um di sd (Some h) = pick (eqb di 1 && leb 2 (rss sd)) 0 (4 * h.ii + 1)

-- "RR 16 with BDS2 zero delivers the first message, zeros if none; other registers read zero"
abbrev pub shows_mb : ℕ → ℕ → ℕ → List ℕ → ℕ
shows_mb rr di sd [] = 0
shows_mb rr di sd (m ∷ ms) = pick (eqb rr 16 && eqb (bds2 di sd) 0) m 0
