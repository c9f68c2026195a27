-- `put_built` lays the frame, or the refusal, one case of the answer after the other.
use Rattle.text_rules.proofs.Laid.{put_then}
use Rattle.console_rules.specs.Texts.{done_text, answer_text}
use Rattle.console_rules.specs.Building.{built_text}
use Prim.Native.Nat.{ℕ}
use mathlib.Core.Path.{◌≡◌}
use mathlib.Core.List.{List}
use Rattle.text_rules.specs.Put.{Put}
use Rattle.frames_rules.specs.Answers.{built_said}
use Rattle.std.specs.Prelude.{Result}
use Rattle.refusals.specs.declared.refusal.Refusal.{Refusal}
use Rattle.console_plain.proofs.building.put_built.Goals as goal

-- the answer's case
told : (frame : List ℕ) {b d : Result (Unit {0}) Refusal} {at q : ℕ} {l m : List ℕ} → b ≡ d → Put (built_text (built_said d frame)) at l m q
    → Put (built_text (built_said b frame)) at l m q
told frame e p = rw e p

pub returns-in-Ok : goal.returns-in-Ok
unfolding built_text answer_text done_text
returns-in-Ok c = search (told, put_then)

pub returns-in-Err : goal.returns-in-Err
unfolding built_text
returns-in-Err c = told _ c.in-Err.is (c.put_refused.ensures _)
