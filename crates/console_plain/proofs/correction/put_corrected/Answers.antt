-- `put_corrected` lays the message, its flips and their places, or the refusal, one case of the answer after the other.
use Prim.Native.Nat.{ℕ}
use mathlib.Core.Path.{◌≡◌}
use mathlib.Core.List.{List}
use Rattle.text_rules.specs.Put.{Put}
use Rattle.text_rules.proofs.Laid.{put_then}
use Rattle.parity_rules.specs.Answers.{Buffers, fix_said}
use Rattle.std.specs.Prelude.{Result}
use Rattle.refusals.specs.declared.refusal.Refusal.{Refusal}
use Rattle.places.proofs.Laying.{told_whole}
use Rattle.console_rules.specs.Texts.{done_text, answer_text}
use Rattle.console_rules.specs.Parity.{corrected_text}
use Rattle.console_plain.proofs.correction.put_corrected.Goals as goal

-- the answer's case
told : (b : Buffers) {f g : Result ℕ Refusal} {at q : ℕ} {l m : List ℕ} → f ≡ g → Put (corrected_text (fix_said g b)) at l m q
    → Put (corrected_text (fix_said f b)) at l m q
told b e h = rw e h

pub returns-in-Ok : goal.returns-in-Ok
unfolding corrected_text answer_text done_text
returns-in-Ok c = search (told, put_then, told_whole) depth 8

pub returns-in-Err : goal.returns-in-Err
unfolding corrected_text
returns-in-Err c = told _ c.in-Err.is (c.put_refused.ensures _)
