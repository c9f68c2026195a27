-- The lines `model ADDRESS AC ID FS CA`, `queue HEX`, `send TIME DRAW HEX` and `state`: what each prints, and the aircraft that it leaves.
use Rattle.std.specs.Prelude.{ℕ, suc, ◌-◌, ◌≤◌, ◌≡◌, List, [], ◌∷◌, ◌++◌, eqb, ltb, length, take, Option, Some, None}
use Rattle.lists.specs.Lists.{pick}
use Rattle.text_rules.specs.Put.{Put, decimal}
use Rattle.text_rules.specs.Plain.{plain}
use Rattle.text_rules.specs.Hex.{hex_of}
use Rattle.console_rules.specs.Texts.{number_at, bytes_at, done_text, refusal_text, answer_text}
use Rattle.model_rules.specs.declared.state.Holder.{Holder}
use Rattle.model_rules.specs.declared.state.Transponder.{Transponder}
use Rattle.model_rules.specs.Answers.{Made, Queued, Took}
use Rattle.model_rules.specs.State.{waiting}
use Rattle.model_rules.specs.Lockout.{locks}
use Rattle.model_rules.specs.Calls.{newborn, making, queuing, taking}
use Rattle.console_rules.specs.declared.names.FlightLine.{FlightLine}
use Rattle.console_rules.specs.declared.names.FlightLine.TheVariants.{Model, Queue, Send, State}

-- ---- the aircraft

-- before any model there is none
unfoldable pub unmade : Option Transponder
unmade = None

-- one that was made
abbrev pub flying : Transponder → Option Transponder
flying t = Some t

-- its transponder; where there is none, one of zeros that is of no use, and no line is read that needs it
abbrev pub transponder_of : Option Transponder → Transponder
transponder_of None = newborn 0 0 0 0 0
transponder_of (Some t) = t

-- ---- what a line says: the text that it prints, and the aircraft that it leaves
pub record Said : Type 0 where
  pub text : List ℕ
  pub aircraft : Option Transponder

-- the text was laid at the front of a buffer, its size is given, and the aircraft that is lent is the one that the line leaves; the text is at most 512 bytes,
-- since an aircraft's numbers have the bits of their types
pub record Showed (s : Said) (before after : List ℕ) (left : Option Transponder) (size : ℕ) : Type 0 where
  pub text_put : Put s.text 0 before after size
  pub aircraft : left ≡ s.aircraft
  pub short : length s.text ≤ 512

-- the one with this text and this aircraft
abbrev pub saying : List ℕ → Option Transponder → Said
saying t a = record { text = t; aircraft = a }

-- a call's number alone, 0 or the refusal's
abbrev pub number_said : ℕ → Option Transponder → Said
number_said n a = saying (refusal_text n) a

-- ---- `model`: "from then on this is the aircraft"; a refused one leaves the aircraft as it was
unfoldable pub made_said : Option Transponder → Made → Said
made_said a m = number_said m.number (pick (eqb m.number 0) (flying m.transponder) a)

-- the five numbers of the line
unfoldable pub model_said : Option Transponder → List (List ℕ) → Said
model_said a ws = made_said a (making (number_at 1 ws) (number_at 2 ws) (number_at 3 ws) (number_at 4 ws) (number_at 5 ws))

-- ---- `queue`
-- the number of the queuing, and the aircraft with what it has left
unfoldable pub queued_said : Queued → Said
queued_said q = number_said q.number (flying q.transponder)

-- the message of the line
unfoldable pub queue_said : Option Transponder → List (List ℕ) → Said
queue_said a ws = queued_said (queuing (transponder_of a) (bytes_at 1 ws))

-- ---- `send`
-- the bytes of a reply, or `-` where there is none
unfoldable pub sent_text : List ℕ → List ℕ
sent_text [] = plain "-"
sent_text (b ∷ bs) = hex_of (b ∷ bs)

-- 0 and the reply, or the refusal's number alone, and the aircraft with what the frame has left
unfoldable pub took_said : Took → Said
took_said k = saying (answer_text k.number (sent_text (take k.length k.reply))) (flying k.transponder)

-- the time, the draw and the frame of the line
unfoldable pub send_said : Option Transponder → List (List ℕ) → Said
send_said a ws = took_said (taking (transponder_of a) (number_at 1 ws) (number_at 2 ws) (bytes_at 3 ws))

-- ---- `state`
-- the holder's II, or `-` for nobody
unfoldable pub holder_text : Option Holder → List ℕ
holder_text None = plain "-"
holder_text (Some h) = decimal h.ii

-- the code of the timer at a place: `II0` to `II15`, then `SI1` to `SI63`
unfoldable pub timer_text : ℕ → List ℕ
timer_text k = pick (ltb k 16) (plain " II" ++ decimal k) (plain " SI" ++ decimal (k - 15))

-- the code if its timer locks
unfoldable pub lock_text : ℕ → Option ℕ → List ℕ
lock_text k t = pick (locks t) (timer_text k) []

-- the locked codes of the timers from the place k on, rising
unfoldable pub locks_text : ℕ → List (Option ℕ) → List ℕ
locks_text k [] = []
locks_text k (t ∷ ts) = lock_text k t ++ locks_text (suc k) ts

-- the holder, how many messages wait, and the locked codes, each behind a space
abbrev pub held_text : Option Holder → ℕ → List (Option ℕ) → List ℕ
held_text h n ts = plain " " ++ (holder_text h ++ (plain " " ++ (decimal n ++ locks_text 0 ts)))

-- the time, then these
abbrev pub shown_text : ℕ → Option Holder → ℕ → List (Option ℕ) → List ℕ
shown_text time h n ts = done_text (decimal time ++ held_text h n ts)

unfoldable pub state_text : Transponder → List ℕ
state_text t = shown_text t.time t.holder (length (waiting t.messages)) t.timers.list

-- nothing changes
unfoldable pub state_said : Option Transponder → Said
state_said a = saying (state_text (transponder_of a)) a

-- ---- each line
unfoldable pub flight_said : FlightLine → Option Transponder → List (List ℕ) → Said
flight_said Model a ws = model_said a ws
flight_said Queue a ws = queue_said a ws
flight_said Send a ws = send_said a ws
flight_said State a ws = state_said a
