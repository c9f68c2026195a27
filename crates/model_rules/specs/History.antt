-- Histories: the calls of a transponder since it was made. The newest call stands first.
use Rattle.std.specs.Prelude.{ℕ, List, [], ◌∷◌}
use Rattle.parity_rules.specs.Messages.{AreBytes}
use Rattle.lists.specs.Checks.{Check}
use Rattle.model_rules.specs.Answers.{Made, Queued, Took}
use Rattle.model_rules.specs.declared.state.Transponder.{Transponder}
use Rattle.model_rules.specs.Calls.{making, queuing, taking}

-- "the AC, ID, FS, CA and address it was made with"
pub record Aircraft : Type 0 where
  pub address : ℕ
  pub ac : ℕ
  pub id : ℕ
  pub fs : ℕ
  pub ca : ℕ

-- its making
abbrev pub made : Aircraft → Made
made a = making a.address a.ac a.id a.fs a.ca

-- a call with all that it is given: a message of bytes to queue; a frame to take, after its time and its draw
pub data Call : Type 0 where
  queue : (message : List ℕ) → AreBytes message → Call
  take : ℕ → ℕ → List ℕ → Call

-- the number that a call is given, and the transponder that it leaves
pub record Afterwards : Type 0 where
  pub number : ℕ
  pub transponder : Transponder

abbrev pub after_queuing : Queued → Afterwards
after_queuing r = record { number = r.number; transponder = r.transponder }

abbrev pub after_taking : Took → Afterwards
after_taking r = record { number = r.number; transponder = r.transponder }

-- "a refusal returns its number alone and changes nothing"
abbrev pub unchanged_by : Transponder → Check → Afterwards
unchanged_by t c = record { number = c.number; transponder = t }

-- "0 means done"
abbrev pub leaving : Transponder → Afterwards
leaving t = record { number = 0; transponder = t }

abbrev pub answer : Transponder → Call → Afterwards
answer t (queue m b) = after_queuing (queuing t m)
answer t (take time draw f) = after_taking (taking t time draw f)

-- the transponder that a history has made of a new one
unfoldable pub after : Aircraft → List Call → Transponder
after a [] = (made a).transponder
after a (c ∷ cs) = (answer (after a cs) c).transponder
