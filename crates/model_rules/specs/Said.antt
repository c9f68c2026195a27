-- Numbers given back: what each answer of the code says, with the transponder that it leaves, in the terms of Answers.
use Rattle.std.specs.Prelude.{ℕ, List, [], replicate, Option, Some, None, Result, Ok, Err}
use Rattle.refusals.specs.declared.refusal.Refusal.{Refusal}
use Rattle.refusals.specs.Refusals.{number_of, number_given}
use Rattle.model_rules.specs.declared.state.Transponder.{Transponder}
use Rattle.model_rules.specs.declared.state.Sent as reply
use Rattle.model_rules.specs.declared.state.Sent.TheVariants.{Short, Long}
use Rattle.model_rules.specs.Answers.{Made, Queued, Took, Sent, Went}
use Rattle.model_rules.specs.Replies.{silence, sent_bytes}
use Rattle.model_rules.specs.Calls.{newborn, went, is_taken}

-- 0 and the transponder, or the refusal's number with one of zeros that is of no use
abbrev pub made_as : Result Transponder Refusal → Made
made_as (Ok t) = record { number = 0; transponder = t }
made_as (Err r) = record { number = number_of r; transponder = newborn 0 0 0 0 0 }

-- the number, and the transponder that a queuing leaves
abbrev pub queued_as : Result (Unit {0}) Refusal → Transponder → Queued
queued_as q t = record { number = number_given q; transponder = t }

-- a reply's bytes
abbrev pub bytes_of : reply.Sent → List ℕ
bytes_of (Short b) = b
bytes_of (Long b) = b

-- those of what is sent, none where nothing is
abbrev pub reply_of : Option reply.Sent → List ℕ
reply_of (Some s) = bytes_of s
reply_of None = []

-- what is sent: a reply, or none
abbrev pub sent_as : Option reply.Sent → Sent
sent_as (Some s) = sent_bytes (bytes_of s)
sent_as None = silence

abbrev pub went_as : Option reply.Sent → Transponder → Went
went_as s t = went t (sent_as s)

-- what a frame leaves and is answered: 0 and the reply, or the refusal's number alone
abbrev pub took_as : Result (Option reply.Sent) Refusal → Transponder → Took
took_as (Ok s) t = is_taken (went_as s t)
took_as (Err r) t = record { number = number_of r; transponder = t; length = 0; reply = replicate 14 0 }
