-- An outcome is unique: two answers of a call, with the stations that they leave, that say the same are the same.
use mathlib.Core.Path.{◌≡◌, refl, sym, ap, ap₂}
use Rattle.std.specs.Prelude.{ℕ, ℤ, Option, Result, Ok, Err}
use Rattle.refusals.specs.declared.refusal.Refusal.{Refusal}
use Rattle.refusals.specs.Refusals.{number_given}
use Rattle.refusals.proofs.Numbers.{same_number}
use Rattle.station_rules.specs.declared.state.Heard.{Heard}
use Rattle.station_rules.specs.declared.state.Reported.{Reported}
use Rattle.station_rules.specs.declared.state.Taken.{Taken}
use Rattle.station_rules.specs.declared.state.Station.{Station}
use Rattle.station_rules.specs.Answers.{Outcome, Report, Reply, outcome, reported_as, reply_as}
use Rattle.station.proofs.Trials.{not_zero}

-- of a call that tells nothing besides, the answer and the station
given_one : (r q : Result (Unit {0}) Refusal) → number_given r ≡ number_given q → r ≡ q
given_one (Ok u) (Ok v) e = refl
given_one (Ok u) (Err w) e = absurd (not_zero w (sym e))
given_one (Err w) (Ok u) e = absurd (not_zero w e)
given_one (Err w) (Err v) e = ap Err (same_number w v e)

pub outcome_one : (r q : Result (Unit {0}) Refusal) (s t : Station) → outcome r s ≡ outcome q t → (r ≡ q) × (s ≡ t)
outcome_one r q s t e = (given_one r q (ap (λ (o : Outcome). o.number) e), ap (λ (o : Outcome). o.station) e)

-- of a report, what it tells of the target
pub reported_one : (r q : Result Reported Refusal) → reported_as r ≡ reported_as q → r ≡ q
reported_one (Ok t) (Ok u) e =
    ap₂ (λ (a i : Option Heard). Ok (record { ac = a; id = i })) (ap (λ (x : Report). x.ac) e) (ap (λ (x : Report). x.id) e)
reported_one (Ok t) (Err w) e = absurd (not_zero w (sym (ap (λ (x : Report). x.number) e)))
reported_one (Err w) (Ok t) e = absurd (not_zero w (ap (λ (x : Report). x.number) e))
reported_one (Err w) (Err v) e = ap Err (same_number w v (ap (λ (x : Report). x.number) e))

-- of a reply, what it tells, and the station
reply_told : (r q : Result Taken Refusal) (s t : Station) → reply_as r s ≡ reply_as q t → r ≡ q
reply_told (Ok a) (Ok b) s t e =
    ap₂ (λ (f : ℕ) (d : ℤ). Ok (record { flips = f; delay = d })) (ap (λ (x : Reply). x.flips) e) (ap (λ (x : Reply). x.delay) e)
reply_told (Ok a) (Err w) s t e = absurd (not_zero w (sym (ap (λ (x : Reply). x.number) e)))
reply_told (Err w) (Ok a) s t e = absurd (not_zero w (ap (λ (x : Reply). x.number) e))
reply_told (Err w) (Err v) s t e = ap Err (same_number w v (ap (λ (x : Reply). x.number) e))

reply_left : (r q : Result Taken Refusal) (s t : Station) → reply_as r s ≡ reply_as q t → s ≡ t
reply_left (Ok a) (Ok b) s t e = ap (λ (x : Reply). x.station) e
reply_left (Ok a) (Err w) s t e = ap (λ (x : Reply). x.station) e
reply_left (Err w) (Ok a) s t e = ap (λ (x : Reply). x.station) e
reply_left (Err w) (Err v) s t e = ap (λ (x : Reply). x.station) e

pub reply_one : (r q : Result Taken Refusal) (s t : Station) → reply_as r s ≡ reply_as q t → (r ≡ q) × (s ≡ t)
reply_one r q s t e = (reply_told r q s t e, reply_left r q s t e)
