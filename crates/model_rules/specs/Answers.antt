-- What a call of the model answers, as document 01 says it: its number, the transponder afterwards, and the reply.
use Rattle.std.specs.Prelude.{ℕ, List}
use Rattle.model_rules.specs.declared.state.Transponder.{Transponder}

-- a making
pub record Made : Type 0 where
  pub number : ℕ
  pub transponder : Transponder

-- a queuing
pub record Queued : Type 0 where
  pub number : ℕ
  pub transponder : Transponder

-- a frame: the reply's bytes stand at the front, zeros behind; length 0 is no reply
pub record Took : Type 0 where
  pub number : ℕ
  pub transponder : Transponder
  pub length : ℕ
  pub reply : List ℕ

-- a reply to be sent, or none with length 0
pub record Sent : Type 0 where
  pub length : ℕ
  pub bytes : List ℕ

-- a transponder after a frame, and what it sends
pub record Went : Type 0 where
  pub transponder : Transponder
  pub sent : Sent
