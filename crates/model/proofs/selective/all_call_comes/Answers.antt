-- `model::selective::all_call_comes` meets its contract: by FFFFFF.
use mathlib.Core.Path.{refl}
use Rattle.lists.proofs.Checks.{tests}
use Rattle.model.proofs.Steps.{not_for_all, for_all}
use borrow.Author.Tests.{not-true, not-false}
use Rattle.model.proofs.selective.all_call_comes.Goals as goal

pub returns-then-not-laid_over : goal.returns-then-not-laid_over
returns-then-not-laid_over c = not_for_all _ _ _ _ _ _ _ (search (tests, not-true)) refl

pub returns : goal.returns
returns c = for_all _ _ _ _ _ _ _ _ (search (tests, not-false)) c.answer_all_call.ensures refl
