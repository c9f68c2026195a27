-- What a reply leaves, by its correction.
use Rattle.std.specs.Prelude.{Result, Ok, Err}
use Rattle.std.proofs.Common.{◌≡◌, ℕ, true, ℤ, pos, sym, refl, ap, ◌∙◌}
use Rattle.lists.specs.Checks.{checked, given, numbered}
use Rattle.lists.proofs.Checks.{view, zero_done, number_refused}
use Rattle.parity_rules.specs.Answers.{Buffers, Correction, not_corrected, fix_said, flips_of}
use Rattle.parity_rules.specs.Correction.{correction_checks}
use Rattle.planner_rules.specs.declared.entry.Entry.{Entry}
use Rattle.station_rules.specs.declared.state.Targets.{Targets}
use Rattle.station_rules.specs.declared.state.Plan.{Plan}
use Rattle.station_rules.specs.declared.state.Station.{Station}
use Rattle.station_rules.specs.Answers.{reply_as}
use Rattle.station_rules.specs.State.{with_targets, with_plan}
use Rattle.station_rules.specs.Replies.{expected, value_in, delay_of, targets_heard, plan_answered, after_reply, Received, entry_for, start_for}
use Rattle.station_rules.specs.Replies.{format_checks, corrected_checks, corrected_as, settle_checks, told, refused_reply, taken_as, corrected, settled}
use Rattle.refusals.specs.declared.refusal.Refusal.{Refusal}
use Rattle.refusals.specs.Refusals.{number_of, number_given}
use Rattle.station.proofs.Trials.{not_zero}

module _ (s : Station) (r : Received) (e : Entry) (q : e ≡ entry_for s r) (f limit : ℕ) (lf : f ≡ expected e.ask.request) (ll : limit ≡ s.setup.limit)
    (o : Result ℕ Refusal) (after : Buffers)
    (h : fix_said o after ≡ corrected_as f r.message r.marks e.ask.request.address limit r.buffers r.buffers) where
  lines_numbered : numbered (settle_checks s r) ≡ true
  unfolding corrected_checks correction_checks format_checks
  lines_numbered = refl

  here : fix_said o after ≡ checked (settle_checks s r) (not_corrected r.buffers) (corrected s r)
  unfolding corrected_as
  here = h ∙ (rw (lf, ll, q))

  given_by : number_given o ≡ given (settle_checks s r)
  given_by = ap (λ (x : Correction). x.number) here ∙ view (λ (x : Correction). x.number) (settle_checks s r) (not_corrected r.buffers) (corrected s r)

  abbrev refused_at : ℕ → Correction
  refused_at n = record { number = n; flips = 0; buffers = r.buffers }

  pub settled_refused : (w : Refusal) → o ≡ Err w → told (reply_as (Err w) s) after ≡ settled s r
  unfolding settled
  settled_refused w q =
      let g : number_of w ≡ given (settle_checks s r) = sym (ap (λ (y : Result ℕ Refusal). number_given y) q) ∙ given_by in
      let n : given (settle_checks s r) ≡ 0 → ⊥ = λ z. not_zero w (g ∙ z) in
      let back : fix_said o after ≡ refused_at (given (settle_checks s r)) = here ∙ sym
      (number_refused (settle_checks s r) (corrected s r) lines_numbered refused_at n) in
      let b : after ≡ r.buffers = ap (λ (y : Correction). y.buffers) back in
      (rw (b, g))
      ∙ number_refused (settle_checks s r) (taken_as s r (corrected s r)) lines_numbered
      (λ (i : ℕ). record { number = i; flips = 0; delay = pos 0; buffers = r.buffers; station = s }) n

  pub settled_taken : (l : ℕ) → o ≡ Ok l → (v : ℕ) → v ≡ value_in after.output → (d : ℤ) → d ≡ delay_of e (start_for s r) → (t : Targets)
      → t ≡ targets_heard e.ask.request v s.targets → (p : Plan) → p ≡ plan_answered r.entry s.plan
      → told (reply_as (Ok (record { flips = l; delay = d })) (with_targets t (with_plan p s))) after ≡ settled s r
  unfolding settled after_reply
  settled_taken l w v ve d de t te p pe =
      let z : given (settle_checks s r) ≡ 0 = sym given_by ∙ ap (λ (y : Result ℕ Refusal). number_given y) w in
      let c : fix_said o after ≡ corrected s r = here ∙ sym
      (zero_done (settle_checks s r) (corrected s r) lines_numbered (not_corrected r.buffers) z) in
      let fl : l ≡ (corrected s r).flips = sym (ap (λ (y : Result ℕ Refusal). flips_of y) w) ∙ ap (λ (x : Correction). x.flips) c in
      let af : after ≡ (corrected s r).buffers = ap (λ (x : Correction). x.buffers) c in
      (rw (te, pe, ve, de, q, fl, af))
      ∙ zero_done (settle_checks s r) (taken_as s r (corrected s r)) lines_numbered (refused_reply s r.buffers) z
