-- Numbers given back: what each case of an answer says in document 01's terms.
use Rattle.std.specs.Prelude.{ℕ, List, [], ◌∷◌, Option, Some, None, Result, Ok, Err}
use Rattle.lists.specs.Checks.{Check}
use Rattle.lists.specs.Answers.{Answer, done, refusal}
use Rattle.refusals.specs.declared.refusal.Refusal.{Refusal}
use Rattle.refusals.specs.Refusals.{number_of, number_given}
use Rattle.frames_rules.specs.declared.answers.Up.{Up}
use Rattle.frames_rules.specs.declared.answers.Up.TheVariants as up
use Rattle.frames_rules.specs.declared.answers.Down.{Down}
use Rattle.frames_rules.specs.declared.answers.Down.TheVariants as down
use Rattle.frames_rules.specs.declared.answers.Code.{Code}
use Rattle.frames_rules.specs.declared.answers.Code.TheVariants as code
use Rattle.frames_rules.specs.declared.answers.Interrogator.{Interrogator}
use Rattle.frames_rules.specs.declared.answers.Interrogator.TheVariants as interrogator

-- ---- a call that builds
-- the number given back, and what the output buffer then holds
pub record Building : Type 0 where
  pub number : ℕ
  pub output : List ℕ

-- what an answer and the buffer after the call say
abbrev pub built_said : Result (Unit {0}) Refusal → List ℕ → Building
built_said b out = record { number = number_given b; output = out }

-- "0 means done": the buffer holds the frame
abbrev pub holding : List ℕ → Building
holding frame = record { number = 0; output = frame }

-- "a refusal returns its number alone and changes nothing"
abbrev pub not_built : List ℕ → Check → Building
not_built out c = record { number = c.number; output = out }

-- ---- a call that reads
-- an interrogation: UF, its fields in the order of their bits, its remainder
abbrev pub up_values : Up → List ℕ
up_values (up.Selective uf pc rr di sd ma r) = uf ∷ pc ∷ rr ∷ di ∷ sd ∷ ma ∷ r ∷ []
up_values (up.AllCall pr ic cl r) = 11 ∷ pr ∷ ic ∷ cl ∷ r ∷ []

abbrev pub up_said : Result Up Refusal → Answer
up_said (Ok u) = done (up_values u)
up_said (Err r) = refusal (number_of r)

-- a reply: DF, its fields in the order of their bits, its remainder
abbrev pub down_values : Down → List ℕ
down_values (down.Surveillance df fs dr um value mb r) = df ∷ fs ∷ dr ∷ um ∷ value ∷ mb ∷ r ∷ []
down_values (down.AllCall ca address r) = 11 ∷ ca ∷ address ∷ r ∷ []

abbrev pub down_said : Result Down Refusal → Answer
down_said (Ok d) = done (down_values d)
down_said (Err r) = refusal (number_of r)

-- "a reader of DF 11 says: own code; matching II; or other"
abbrev pub own : List ℕ
own = 0 ∷ []

abbrev pub matching_ii : List ℕ
matching_ii = 1 ∷ []

abbrev pub other : List ℕ
other = 2 ∷ []

abbrev pub code_values : Code → List ℕ
code_values code.Own = own
code_values code.Matching = matching_ii
code_values code.Other = other

abbrev pub code_said : Result Code Refusal → Answer
code_said (Ok c) = done (code_values c)
code_said (Err r) = refusal (number_of r)

-- the code that CL and IC stand for: 0 and n for II n, 1 and n for SI n, no value for nobody
abbrev pub interrogator_said : Option Interrogator → Answer
interrogator_said (Some (interrogator.II n)) = done (0 ∷ n ∷ [])
interrogator_said (Some (interrogator.SI n)) = done (1 ∷ n ∷ [])
interrogator_said None = done []

-- what a request draws: the DF of its reply, or no value
abbrev pub draws_said : Option ℕ → Answer
draws_said (Some f) = done (f ∷ [])
draws_said None = done []

-- whose overlay a remainder is: the address, or no value
abbrev pub address_said : Option ℕ → Answer
address_said (Some a) = done (a ∷ [])
address_said None = done []
