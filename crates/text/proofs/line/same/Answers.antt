-- The kit's comparison, as the definition's test.
use Rattle.text_rules.proofs.Words.{one_test, same_true, same_of}
use Rattle.text.proofs.line.same.Goals as goal

pub returns : goal.returns
returns c =
    one_test _ _ (λ h. same_of (c.same.ensures.0 h)) (λ h. c.same.ensures.1 (same_true _ _ h))
