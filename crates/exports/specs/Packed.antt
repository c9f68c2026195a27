-- An answer as one number of 64 bits: document 01's number above, the value or the flips in the low 32 bits.
use Rattle.std.specs.Prelude.{ℕ, ◌+◌, ◌*◌, ◌/◌, ◌%◌, ◌≡◌, get_or, Result}
use Rattle.lists.specs.Answers.{Answer}
use Rattle.refusals.specs.declared.refusal.Refusal.{Refusal}
use Rattle.parity_rules.specs.Answers.{Buffers, Correction, fix_number, flips_of}

-- an answer's number and value, 0 where it has none
abbrev pub packed : Answer → ℕ
packed a = a.number * 4294967296 + get_or a.values 0 0

-- the correction that a number and the buffers after the call say
abbrev pub opened : ℕ → Buffers → Correction
opened r b = record { number = r / 4294967296; flips = r % 4294967296; buffers = b }

-- p has a correction's number above and its flips below
pub record Packs (p : ℕ) (f : Result ℕ Refusal) : Type 0 where
  pub number : p / 4294967296 ≡ fix_number f
  pub flips : p % 4294967296 ≡ flips_of f
