-- `parity::correction::settle` meets its contract: how many subsets match decides, and the one match is rebuilt.
use Rattle.std.proofs.Common.{rules, ◌∙◌}
use Rattle.lists.proofs.Checks.{all, stop, end}
use Rattle.parity_rules.specs.Answers.{not_corrected}
use Rattle.parity_rules.proofs.Match.{one_found, found}
use Rattle.parity_rules.proofs.Judged.{one}
use Rattle.parity.proofs.correction.settle.Goals as goal

pub returns-then-found-eq0 : goal.returns-then-found-eq0
returns-then-found-eq0 c = stop (not_corrected _) _ 12 all (search found depth 12) (search found)

pub returns-then-found-ne1 : goal.returns-then-found-ne1
returns-then-found-ne1 c = stop (not_corrected _) _ 13 all (search found depth 12) (search found)

pub rebuild-requires : goal.rebuild-requires
rebuild-requires c =
    (search rules, search rules, search rules, search rules, record { few = search rules; only = one _ (search one_found); rest = search rules })

pub returns : goal.returns
returns c =
    let e = c.rebuild.ensures in
    cc (e.value, e.out_after, e.places_after) ∙ end (not_corrected _) _ all (search found depth 12)
