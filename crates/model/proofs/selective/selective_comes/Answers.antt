-- `model::selective::selective_comes` meets its contract: by the address.
use mathlib.Core.Path.{refl}
use Rattle.lists.proofs.Checks.{tests}
use Rattle.model.proofs.Steps.{not_for_it, for_it}
use borrow.Author.Tests.{not-true, not-false}
use Rattle.model.proofs.selective.selective_comes.Goals as goal

pub returns-then-not-laid_over : goal.returns-then-not-laid_over
returns-then-not-laid_over c = not_for_it _ _ _ _ _ _ _ _ (search (tests, not-true)) refl

pub returns : goal.returns
returns c = for_it _ _ _ _ _ _ _ _ (search (tests, not-false)) c.interrogated.ensures
