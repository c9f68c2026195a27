-- The numbers given back: every making, and every call after a story, is given the number that its table says.
use Prim.Native.Nat.{ℕ}
use mathlib.Core.Path.{◌≡◌, ap, ◌∙◌}
use lib.ListN.{length}
use Rattle.lists.specs.Checks.{given}
use Rattle.lists.proofs.Checks.{view}
use Rattle.model_rules.specs.Answers.{Made, Queued, Took}
use Rattle.model_rules.specs.declared.state.Transponder.{Transponder}
use Rattle.model_rules.specs.State.{waiting}
use Rattle.model_rules.specs.Calls.{making_checks, making, queuing_checks, queuing, taking_checks, taking}
use Rattle.model_rules.specs.History.{Aircraft, made, Call, queue, take, answer}
use Rattle.model_rules.specs.Story.{Told}
use Rattle.model_rules.specs.Numbers.{checks}
use Rattle.model_rules.specs.Seen.{number_on}

pub making_number : (a : Aircraft) → (made a).number ≡ given (making_checks a.address a.ac a.id a.fs a.ca)
unfolding making
making_number a = view (λ (r : Made). r.number) _ _ _

-- after a story with the transponder's clock and as many messages
pub number_on_is : (t : Transponder) (s : Told) → t.time ≡ s.time → length (waiting t.messages) ≡ length s.messages
    → (c : Call) → (answer t c).number ≡ number_on s c
unfolding queuing taking checks
number_on_is t s clock many (queue m b) = view (λ (r : Queued). r.number) _ _ _ ∙ ap (λ (n : ℕ). given (queuing_checks n m)) many
number_on_is t s clock many (take time draw f) = view (λ (r : Took). r.number) _ _ _ ∙ ap (λ (n : ℕ). given (taking_checks n time draw f)) clock
