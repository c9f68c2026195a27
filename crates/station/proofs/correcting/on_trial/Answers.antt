-- `station::correcting::on_trial` meets its contract: by the correction's answer, then by the format.
use Rattle.std.proofs.lemmas.Result.{err_from_is_err_and}
use Rattle.station.proofs.Trials.{trial_refused, trial_other, trial_taken}
use Rattle.station.proofs.correcting.on_trial.Goals as goal

pub returns-in_err-flips : goal.returns-in_err-flips
returns-in_err-flips c = let p = err_from_is_err_and c.from_residual.result c.from_residual.ensures.1 in
    rw (p.1, p.2) (trial_refused _ _ _ _ _ _ c.correct.result _ c.correct.ensures _ (c.in_err-flips.was))

pub returns-then-format_of-format : goal.returns-then-format_of-format
returns-then-format_of-format c = trial_other _ _ _ _ _ _ c.correct.result _ c.correct.ensures _ (c.in_ok-flips.was)
    c.format_of.result c.format_of.ensures c.if-format_of-format.true

pub returns : goal.returns
returns c = trial_taken _ _ _ _ _ _ c.correct.result _ c.correct.ensures _ (c.in_ok-flips.was)
    c.format_of.result c.format_of.ensures c.if-format_of-format.false
