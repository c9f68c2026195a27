-- What is shown of every history of a transponder, each as one record: what its theorem in proofs/ shows.
use Rattle.std.specs.Prelude.{ℕ, ◌≤◌, ◌≡◌, List, ◌∷◌}
use Rattle.frames_rules.specs.declared.answers.Interrogator.{Interrogator}
use Rattle.model_rules.specs.Answers.{Took, Sent}
use Rattle.model_rules.specs.State.{waiting}
use Rattle.model_rules.specs.Lapse.{lapse}
use Rattle.model_rules.specs.Lockout.{locked_to}
use Rattle.model_rules.specs.Replies.{silence}
use Rattle.model_rules.specs.Calls.{taking}
use Rattle.model_rules.specs.History.{Aircraft, Call, answer, after}
use Rattle.model_rules.specs.Story.{holds_at}
use Rattle.model_rules.specs.Seen.{ACode, number_on, told, last_command, locked_since}
use Rattle.model_rules.specs.Replied.{sent_to}

-- what is sent with a frame's answer
abbrev pub sent_by : Took → Sent
sent_by r = record { length = r.length; bytes = r.reply }

-- demand 1: each number is given exactly when the table says, told from the calls alone; a refusal changes nothing, time included, and sends nothing;
-- time never goes back
pub record Demand1 (a : Aircraft) (cs : List Call) : Type 0 where
  pub numbers : (c : Call) → (answer (after a cs) c).number ≡ number_on (told a cs) c
  pub unchanged : (c : Call) → ((answer (after a cs) c).number ≡ 0 → ⊥) → (answer (after a cs) c).transponder ≡ after a cs
  pub unsent : (time draw : ℕ) (f : List ℕ) → ((taking (after a cs) time draw f).number ≡ 0 → ⊥) → sent_by (taking (after a cs) time draw f) ≡ silence
  pub forward : (c : Call) → (after a cs).time ≤ (after a (c ∷ cs)).time

-- demand 2, commands: at every time from the last one on, a code is locked exactly while less than 180 tenths have passed since the last command of it
-- in the frames that were taken
pub record Obeys (a : Aircraft) (cs : List Call) : Type 0 where
  pub locked : (c : Interrogator) → ACode c → (now : ℕ) → (told a cs).time ≤ now
      → locked_to c (lapse now (after a cs)).timers ≡ locked_since now (last_command a c cs)

-- demand 2, Comm-B: the clock, the messages that wait and, at every time from the last one on, who holds and since when are what the calls alone tell
pub record Holds (a : Aircraft) (cs : List Call) : Type 0 where
  pub clock : (after a cs).time ≡ (told a cs).time
  pub messages : waiting (after a cs).messages ≡ (told a cs).messages
  pub holder : (now : ℕ) → (told a cs).time ≤ now → (lapse now (after a cs)).holder ≡ holds_at now (told a cs).reserved

-- demand 2, replies: to every frame exactly the bytes are sent that the calls alone tell, or none: a selective interrogation for this aircraft draws a
-- format, and the frame of that format shows DR, UM and MB as they are after the closeout; an all-call that is answered draws the DF 11 over its code; an
-- all-call that is not, a frame that is refused or for another aircraft, of another format or of the wrong length get nothing
pub record Sends (a : Aircraft) (cs : List Call) : Type 0 where
  pub sent : (time draw : ℕ) (f : List ℕ) → sent_by (taking (after a cs) time draw f) ≡ sent_to a cs time draw f
