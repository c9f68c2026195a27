-- What every history of calls keeps true of a transponder.
use Rattle.std.specs.Prelude.{ℕ, ◌≤◌, ◌<◌, ◌^◌, ◌≡◌, Bool, true, length, Option, Some, None}
use Rattle.lists.specs.Lists.{All}
use Rattle.model_rules.specs.declared.state.Holder.{Holder}
use Rattle.model_rules.specs.declared.state.Messages.{Messages}
use Rattle.model_rules.specs.declared.state.Transponder.{Transponder}
use Rattle.model_rules.specs.State.{waiting, waits}
use Rattle.model_rules.specs.Calls.{make_ranged}
use Rattle.model_rules.specs.History.{Aircraft}

-- while somebody holds, a message waits
abbrev pub held_waits : Option Holder → Messages → Bool
held_waits None m = true
held_waits (Some h) m = waits m

abbrev pub HeldWaits : Transponder → Type 0
HeldWaits t = held_waits t.holder t.messages ≡ true

-- "IIS 1-15"
abbrev pub HolderIn : Option Holder → Type 0
HolderIn None = Unit {0}
HolderIn (Some h) = (1 ≤ h.ii) × (h.ii ≤ 15)

-- MB has 56 bits
abbrev pub Of56Bits : ℕ → Type 0
Of56Bits v = v < 2 ^ 56

-- "the AC, ID, FS, CA and address it was made with"
pub record As (a : Aircraft) (t : Transponder) : Type 0 where
  pub address : t.address ≡ a.address
  pub ac : t.ac ≡ a.ac
  pub id : t.id ≡ a.id
  pub fs : t.fs ≡ a.fs
  pub ca : t.ca ≡ a.ca

-- the numbers are those of the making, in their ranges; a reservation is of a waiting message and for an II of 1 to 15; at most 8 messages
-- wait, each of 56 bits; and there are 79 timers
pub record Kept (a : Aircraft) (t : Transponder) : Type 0 where
  pub same : As a t
  pub ranged : make_ranged a.address a.ac a.id a.fs a.ca ≡ true
  pub held : HeldWaits t
  pub holder : HolderIn t.holder
  pub messages : All Of56Bits (waiting t.messages)
  pub eight : length (waiting t.messages) ≤ 8
  pub timers : length t.timers.list ≡ 79
