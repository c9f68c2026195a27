-- What each call of the model answers: its table of checks in their order, and the transponder afterwards.
use Rattle.std.specs.Prelude.{ℕ, Bool, not, ◌&&◌, List, [], ◌∷◌, eqb, leb, ltb, length, replicate, Result, Ok, Err, None}
use Rattle.lists.specs.Lists.{pick}
use Rattle.lists.specs.Checks.{Check, check, checked}
use Rattle.refusals.specs.declared.refusal.Refusal.{Refusal}
use Rattle.parity_rules.specs.Messages.{seven_or_fourteen}
use Rattle.parity_rules.specs.Overlays.{overlay_of}
use Rattle.frames_rules.specs.Building.{is_address}
use Rattle.frames_rules.specs.Bytes.{number_of_bytes}
use Rattle.frames_rules.specs.Interrogations.{up_of}
use Rattle.frames_rules.specs.declared.answers.Up.{Up}
use Rattle.frames_rules.specs.declared.answers.Up.TheVariants as up
use Rattle.model_rules.specs.declared.state.Transponder.{Transponder}
use Rattle.model_rules.specs.Answers.{Made, Queued, Took, Sent, Went}
use Rattle.model_rules.specs.State.{idle, waiting, messages_with, with_messages}
use Rattle.model_rules.specs.Lapse.{lapse}
use Rattle.model_rules.specs.Lockout.{lockout}
use Rattle.model_rules.specs.CommB.{reserve, closeout}
use Rattle.model_rules.specs.Replies.{silence, respond, answer_all_call}

-- ---- a making
-- time 0, nothing commanded, nobody holds, nothing waits
unfoldable pub newborn : ℕ → ℕ → ℕ → ℕ → ℕ → Transponder
newborn address ac id fs ca =
    record {
      address = address;
      ac = ac;
      id = id;
      fs = fs;
      ca = ca;
      time = 0;
      timers = record { list = replicate 79 idle };
      holder = None;
      messages = record { list = replicate 8 0; n = 0 };
    }

-- "address 1 to 16,777,214 .. CL, FS, CA 0 to 7; AC and ID 13 bits"
unfoldable pub make_ranged : ℕ → ℕ → ℕ → ℕ → ℕ → Bool
make_ranged address ac id fs ca = is_address address && leb ac 8191 && leb id 8191 && leb fs 7 && leb ca 7

-- 2: a number out of its range
unfoldable pub making_checks : ℕ → ℕ → ℕ → ℕ → ℕ → List Check
making_checks address ac id fs ca = check 2 (not (make_ranged address ac id fs ca)) ∷ []

-- refused: the number, with a transponder of zeros that is of no use
abbrev pub not_made : Check → Made
not_made c = record { number = c.number; transponder = newborn 0 0 0 0 0 }

-- "0 means done"
abbrev pub is_made : Transponder → Made
is_made t = record { number = 0; transponder = t }

unfoldable pub making : ℕ → ℕ → ℕ → ℕ → ℕ → Made
unfolding making_checks
making address ac id fs ca = checked (making_checks address ac id fs ca) not_made (is_made (newborn address ac id fs ca))

-- ---- a queuing; "queuing moves no time"
-- with so many waiting, 1: "a message to queue not of 7 bytes"; 6: "8 messages queued in the model"
unfoldable pub queuing_checks : ℕ → List ℕ → List Check
queuing_checks many message = check 1 (not (eqb (length message) 7)) ∷ check 6 (leb 8 many) ∷ []

-- "a refusal returns its number alone and changes nothing"
abbrev pub not_queued : Transponder → Check → Queued
not_queued t c = record { number = c.number; transponder = t }

abbrev pub is_queued : Transponder → Queued
is_queued t = record { number = 0; transponder = t }

unfoldable pub queuing : Transponder → List ℕ → Queued
unfolding queuing_checks
queuing t message =
    checked (queuing_checks (length (waiting t.messages)) message) (not_queued t)
    (is_queued (with_messages (messages_with (number_of_bytes message) t.messages) t))

-- ---- a frame, at the time that it comes
-- "order: time lapses, lockout, reservation and closeout, reply": a selective interrogation for this aircraft, after the lapse
unfoldable pub steps : ℕ → ℕ → ℕ → Transponder → Transponder
steps pc di sd t = closeout pc di sd (reserve di sd (lockout pc di sd t))

-- the transponder after a frame, and what it sends
abbrev pub went : Transponder → Sent → Went
went t sent = record { transponder = t; sent = sent }

unfoldable pub interrogated : ℕ → ℕ → ℕ → ℕ → ℕ → Transponder → Went
interrogated uf pc rr di sd t = went (steps pc di sd t) (respond uf rr di sd (steps pc di sd t))

-- what only moves time
abbrev pub time_alone : Transponder → Went
time_alone t = went t silence

-- whether a remainder is the uplink overlay of a number of 24 bits
unfoldable pub laid_over : ℕ → ℕ → Bool
laid_over address remainder = ltb address 0x1000000 && eqb remainder (overlay_of address)

-- UF 4, 5, 20 or 21 is for this aircraft over its address
unfoldable pub selective_comes : ℕ → ℕ → ℕ → ℕ → ℕ → ℕ → Transponder → Went
selective_comes uf pc rr di sd remainder t = pick (laid_over t.address remainder) (interrogated uf pc rr di sd t) (time_alone t)

-- UF 11 is for every aircraft over FFFFFF
unfoldable pub all_call_comes : ℕ → ℕ → ℕ → ℕ → ℕ → Transponder → Went
all_call_comes pr ic cl remainder draw t =
    pick (laid_over 0xFFFFFF remainder) (went t (answer_all_call pr ic cl draw t)) (time_alone t)

-- a frame comes, by what it is; of another format, or not of its format's length, it only moves time
unfoldable pub comes : ℕ → Transponder → Result Up Refusal → Went
comes draw t (Ok (up.Selective uf pc rr di sd ma remainder)) = selective_comes uf pc rr di sd remainder t
comes draw t (Ok (up.AllCall pr ic cl remainder)) = all_call_comes pr ic cl remainder draw t
comes draw t (Err r) = time_alone t

-- with such a last time, 1: bytes "neither 7 nor 14"; 2: a draw that is not "0 to 15"; 15: "model time before its last time"
unfoldable pub taking_checks : ℕ → ℕ → ℕ → List ℕ → List Check
taking_checks last time draw frame = check 1 (not (seven_or_fourteen (length frame))) ∷ check 2 (ltb 15 draw) ∷ check 15 (ltb time last) ∷ []

-- "a refusal returns its number alone and changes nothing", time included
abbrev pub not_taken : Transponder → Check → Took
not_taken t c = record { number = c.number; transponder = t; length = 0; reply = replicate 14 0 }

abbrev pub is_taken : Went → Took
is_taken w = record { number = 0; transponder = w.transponder; length = w.sent.length; reply = w.sent.bytes }

-- else time lapses, and the frame comes
unfoldable pub taking : Transponder → ℕ → ℕ → List ℕ → Took
unfolding taking_checks
taking t time draw frame = checked (taking_checks t.time time draw frame) (not_taken t) (is_taken (comes draw (lapse time t) (up_of frame)))
