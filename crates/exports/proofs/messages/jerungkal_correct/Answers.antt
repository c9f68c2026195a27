-- `exports::jerungkal_correct` meets its contract: the correction, its number and flips packed.
use mathlib.Core.Path.{ap₂, ◌∙◌}
use Prim.Native.Nat.{ℕ}
use Rattle.parity_rules.specs.Answers.{Buffers, Correction}
use Rattle.exports.proofs.messages.jerungkal_correct.Goals as goal

abbrev told : Buffers → ℕ → ℕ → Correction
told b n f = record { number = n; flips = f; buffers = b }

pub returns : goal.returns
returns c =
    ap₂ (told _) c.pack.ensures.parts.number c.pack.ensures.parts.flips ∙ c.correct.ensures
