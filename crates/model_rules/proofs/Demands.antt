-- What holds of every history of a transponder, collected.
use mathlib.Core.Path.{◌≡◌}
use mathlib.Core.List.{List}
use Rattle.model_rules.specs.History.{Aircraft, made, Call, after}
use Rattle.model_rules.specs.Demands.{Demand1, Obeys, Holds, Sends}
use Rattle.model_rules.proofs.Came.{refusal_changes_nothing, refusal_sends_nothing}
use Rattle.model_rules.proofs.Keeping.{time_never_goes_back}
use Rattle.model_rules.proofs.Locked.{locked_exactly}
use Rattle.model_rules.proofs.Telling.{numbers, always_told}
use Rattle.model_rules.proofs.Sending.{always_sent}

-- demand 1
pub demand1 : (a : Aircraft) → (made a).number ≡ 0 → (cs : List Call) → Demand1 a cs
unfolding after
demand1 a m cs =
    record {
      numbers = numbers a m cs;
      unchanged = refusal_changes_nothing (after a cs);
      unsent = refusal_sends_nothing (after a cs);
      forward = time_never_goes_back (after a cs);
    }

-- demand 2, commands
pub obeys : (a : Aircraft) → (made a).number ≡ 0 → (cs : List Call) → Obeys a cs
obeys a m cs = record { locked = λ c ok. locked_exactly a c ok m cs }

-- demand 2, Comm-B
pub holds : (a : Aircraft) → (made a).number ≡ 0 → (cs : List Call) → Holds a cs
holds = always_told

-- demand 2, replies
pub sends : (a : Aircraft) → (made a).number ≡ 0 → (cs : List Call) → Sends a cs
sends a m cs = record { sent = always_sent a m cs }
