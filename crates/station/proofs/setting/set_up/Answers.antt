-- `station::setting::set_up` meets its contract: by the planner's judgement.
use Rattle.std.specs.Prelude.{Result, Ok, Err}
use Rattle.std.proofs.Common.{◌≡◌, ℕ, sym, refl, ap, ◌∙◌}
use Rattle.lists.proofs.Checks.{zero_done, number_refused}
use Rattle.planner_rules.specs.declared.setup.Setup.{Setup}
use Rattle.planner_rules.specs.Shares.{setup_checks, setup_number}
use Rattle.refusals.specs.declared.refusal.Refusal.{Refusal}
use Rattle.refusals.specs.Refusals.{number_of, number_given}
use Rattle.station_rules.specs.declared.state.Station.{Station}
use Rattle.station_rules.specs.Answers.{Outcome}
use Rattle.station_rules.specs.State.{emptied}
use Rattle.station_rules.specs.Calls.{refused, leaves, set_up}
use Rattle.station.proofs.Trials.{not_zero}
use Rattle.station.proofs.setting.set_up.Goals as goal

module _ (s : Station) (h : Setup) {A : Type 0} (r : Result A Refusal) (e : number_given r ≡ setup_number h) where
  abbrev numbered : ℕ → Outcome
  numbered n = record { number = n; station = s }

  refuses : (w : Refusal) → r ≡ Err w → numbered (number_of w) ≡ set_up s h
  unfolding set_up setup_number setup_checks
  refuses w q =
      let n : number_of w ≡ setup_number h = sym (ap (λ (y : Result A Refusal). number_given y) q) ∙ e in
      ap numbered n ∙ number_refused (setup_checks h) (leaves (emptied h s)) refl numbered (λ z. not_zero w (n ∙ z))

  sets : (a : A) → r ≡ Ok a → (x : Station) → x ≡ emptied h s → leaves x ≡ set_up s h
  unfolding set_up setup_number setup_checks
  sets a q x p =
      ap leaves p
      ∙ zero_done (setup_checks h) (leaves (emptied h s)) refl (refused s) (sym e ∙ ap (λ (y : Result A Refusal). number_given y) q)

pub returns-in-Ok : goal.returns-in-Ok
returns-in-Ok c = sets _ _ c.judge.result c.judge.ensures _ c.in-Ok.is c.empty.new.s c.empty.ensures

pub returns-in-Err : goal.returns-in-Err
returns-in-Err c = refuses _ _ c.judge.result c.judge.ensures _ c.in-Err.is
