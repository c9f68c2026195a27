-- What a call that changes nothing answers: its number, and the values beside it.
use Rattle.std.specs.Prelude.{ℕ, List, []}
use Rattle.lists.specs.Checks.{Check}

pub record Answer : Type 0 where
  pub number : ℕ
  pub values : List ℕ

-- "0 means done", with the values
abbrev pub done : List ℕ → Answer
done vs = record { number = 0; values = vs }

-- "a refusal returns its number alone"
abbrev pub refusal : ℕ → Answer
refusal n = record { number = n; values = [] }

-- by the check that is the case
abbrev pub refused_by : Check → Answer
refused_by c = refusal c.number
