-- `station::correcting::correct_as` meets its contract: what the trial says.
use Rattle.lists.proofs.Checks.{told}
use Rattle.parity_rules.proofs.Judged.{Sizes, sizes}
use Rattle.parity_rules.specs.Answers.{buffers, fix_said}
use Rattle.station.proofs.Trials.{same_as_is, refused_as, taken_as}
use Rattle.std.specs.Result.{is_err}
use Rattle.std.proofs.Common.{◌≡◌, ℕ, true, false, List, length, take, replicate, sym, ◌∙◌, ap₂, length-take-le, take_at}
use Rattle.station.proofs.correcting.correct_as.Goals as goal

-- the part of a scratch buffer that the trial is lent is as long as each of the caller's
lent : {n marks out places : ℕ} → Sizes n marks out places → length (take n (replicate {A = ℕ} 14 0)) ≡ n
lent z = length-take-le _ _ z.most

pub returns-then-is_refused : goal.returns-then-is_refused
returns-then-is_refused c = let e : is_err c.on_trial-r.result ≡ true = search told in
    let z = sizes _ _ _ _ c.requires in
    refused_as _ _ _ _ _ _ _ (buffers c.on_trial-r.new.out c.on_trial-r.new.places) (lent z ∙ sym z.output) (lent z ∙ sym z.places)
    c.on_trial-r.result c.on_trial-r.ensures e

pub returns : goal.returns
returns c = let e : is_err c.on_trial-r.result ≡ false = search told in
    let z = sizes _ _ _ _ c.requires in
    let t = c.on_trial-r.new in
    ap₂ (λ (v w : List ℕ). fix_said c.on_trial-r.result (buffers v w))
    (c.copy_from_slice.ensures.after ∙ take_at t.out _ _ (same_as_is t.out _ c.on_trial-r.auto.out z.most))
    (c.copy_from_slice-2.ensures.after ∙ take_at t.places _ _ (same_as_is t.places _ c.on_trial-r.auto.places z.most))
    ∙ taken_as _ _ _ _ _ _ _ (buffers t.out t.places) (lent z ∙ sym z.output) (lent z ∙ sym z.places)
    c.on_trial-r.result c.on_trial-r.ensures e
