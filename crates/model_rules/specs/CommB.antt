-- Comm-B: reservation and closeout.
use Rattle.std.specs.Prelude.{ℕ, Bool, true, ◌&&◌, eqb, leb, Option, Some, None}
use Rattle.lists.specs.Lists.{pick}
use Rattle.frames_rules.specs.Fields.{bits_to, value_at}
use Rattle.model_rules.specs.declared.state.Holder.{Holder}
use Rattle.model_rules.specs.declared.state.Transponder.{Transponder}
use Rattle.model_rules.specs.State.{held_since, waits, messages_after, with_holder, with_messages}
use Rattle.model_rules.specs.Lockout.{iis}

-- "MBS (bits 21-22)"
abbrev pub mbs : ℕ → ℕ
mbs sd = value_at (bits_to 21 22) sd

-- ---- "DI 1 with MBS 1 reserves for IIS 1-15 when a message waits and nobody else holds it; the holder's repeat restarts it"
abbrev pub asks_to_hold : ℕ → ℕ → Bool
asks_to_hold di sd = eqb di 1 && eqb (mbs sd) 1 && leb 1 (iis sd)

-- whether nobody else than this II holds it
abbrev pub nobody_else : ℕ → Option Holder → Bool
nobody_else ii None = true
nobody_else ii (Some h) = eqb h.ii ii

unfoldable pub reserve : ℕ → ℕ → Transponder → Transponder
reserve di sd t =
    pick (asks_to_hold di sd && waits t.messages && nobody_else (iis sd) t.holder) (with_holder (held_since (iis sd) t.time) t) t

-- ---- "MBS 2 from the holder, or PC 4 while nobody holds it, removes the first message and the reservation"
-- "MBS 2 from the holder"
abbrev pub closes_for : ℕ → ℕ → ℕ → Bool
closes_for ii di sd = eqb di 1 && eqb (mbs sd) 2 && eqb (iis sd) ii

-- who holds is read once, after the reservation, for both
abbrev pub closes : ℕ → ℕ → ℕ → Option Holder → Bool
closes pc di sd None = eqb pc 4
closes pc di sd (Some h) = closes_for h.ii di sd

unfoldable pub closeout : ℕ → ℕ → ℕ → Transponder → Transponder
closeout pc di sd t = pick (closes pc di sd t.holder) (with_messages (messages_after t.messages) (with_holder None t)) t
