-- `put_selective` lends 14 zeros to a long format and 7 to another, and lays what the builder answers.
use Rattle.console_rules.specs.Building.{built_text, selective_text}
use Prim.Native.Nat.{ℕ}
use mathlib.Core.Path.{◌≡◌}
use mathlib.Core.List.{List}
use Rattle.text_rules.specs.Put.{Put}
use mathlib.Core.Bool.{Bool}
use lib.ListN.{replicate}
use Rattle.lists.specs.Lists.{pick}
use Rattle.frames_rules.specs.Answers.{Building}
use Rattle.frames_rules.specs.Formats.{long_format}
use Rattle.frames_rules.specs.Building.{building}
use Rattle.console_plain.proofs.building.put_selective.Goals as goal

-- the buffer is as long as the format's message
module _ (uf pc rr di sd : ℕ) (ma : List ℕ) (address : ℕ) {r b : Bool} {o : Building} {at q : ℕ} {l m : List ℕ} where
  fitting : r ≡ long_format uf → r ≡ b → o ≡ building uf pc rr di sd ma address (replicate (pick b 14 7) 0) → Put (built_text o) at l m q
      → Put (selective_text uf pc rr di sd ma address) at l m q
  unfolding selective_text
  fitting k h e p = rw (← k, h) (rw e at p)

pub returns-then-is_long : goal.returns-then-is_long
returns-then-is_long c = search fitting

pub returns : goal.returns
returns c = search fitting
