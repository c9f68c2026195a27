-- Numbers given back: what each case of an answer says in document 01's terms.
use Rattle.std.specs.Prelude.{ℕ, List, [], ◌∷◌, Result, Ok, Err}
use Rattle.std.specs.Result.{result_unwrap_or}
use Rattle.lists.specs.Checks.{Check}
use Rattle.lists.specs.Answers.{Answer, done, refusal}
use Rattle.refusals.specs.declared.refusal.Refusal.{Refusal}
use Rattle.refusals.specs.Refusals.{number_of, number_given}

-- ---- a call that reckons a number
-- 0 and the value beside it, or the refusal's number
abbrev pub reckoned_said : Result ℕ Refusal → Answer
reckoned_said (Ok v) = done (v ∷ [])
reckoned_said (Err r) = refusal (number_of r)

-- ---- a correction
-- the two buffers that a correction is lent: for the corrected message, and for the flipped places
pub record Buffers : Type 0 where
  pub output : List ℕ
  pub places : List ℕ

abbrev pub buffers : List ℕ → List ℕ → Buffers
buffers output places = record { output = output; places = places }

-- the number given back, the flips beside it, and what the buffers then hold
pub record Correction : Type 0 where
  pub number : ℕ
  pub flips : ℕ
  pub buffers : Buffers

-- the number of a fix: 0, where exactly one subset matches, or the refusal's
abbrev pub fix_number : Result ℕ Refusal → ℕ
fix_number f = number_given f

-- its flips: where exactly one subset matches, how many bits of the message are flipped in the output and marked in the places
abbrev pub flips_of : Result ℕ Refusal → ℕ
flips_of f = result_unwrap_or f 0

-- what an answer and the buffers after the call say
abbrev pub fix_said : Result ℕ Refusal → Buffers → Correction
fix_said f b = record { number = fix_number f; flips = flips_of f; buffers = b }

-- "a refusal returns its number alone and changes nothing"
abbrev pub not_corrected : Buffers → Check → Correction
not_corrected b c = record { number = c.number; flips = 0; buffers = b }
