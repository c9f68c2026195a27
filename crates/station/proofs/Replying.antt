-- A reply, refused by its entry or passed on to the correction.
use Rattle.std.specs.Prelude.{Err}
use Rattle.std.proofs.Common.{◌≡◌, ℕ, ◌<◌, true, List, length, pos, sym, refl, ap, ap₂, ◌∙◌, lt-ltb}
use borrow.Author.Tests.{not-false}
use Rattle.lists.specs.Checks.{Check, given}
use Rattle.lists.proofs.Checks.{Left, all, past, rest, not_off, zero_passed, zero_done, number_refused}
use Rattle.parity_rules.specs.Correction.{sized}
use Rattle.planner_rules.specs.declared.entry.Entry.{Entry}
use Rattle.refusals.specs.declared.refusal.Refusal.{Refusal}
use Rattle.refusals.specs.Refusals.{number_of}
use Rattle.station_rules.specs.declared.state.Station.{Station}
use Rattle.station_rules.specs.Answers.{reply_as}
use Rattle.station_rules.specs.State.{entries_of}
use Rattle.station_rules.specs.Replies.{in_window, Received, entry_for, start_for, open_checks, entry_checks, Replied, told, refused_reply, settled, replied}
use Rattle.station.proofs.Trials.{not_zero}

-- ---- by the answer of its entry
module _ (s : Station) (r : Received)
    (sizes : sized (length r.message) (length r.marks) (length r.buffers.output) (length r.buffers.places) ≡ true)
    (listed : r.entry < length (entries_of s.plan)) (e : Entry) (at : e ≡ entry_for s r) (t : ℕ) (starts : t ≡ start_for s r) where
  abbrev lines : List Check
  lines = open_checks (entry_for s r) (start_for s r) (length r.message)

  entered : Left (entry_checks s r) lines
  unfolding entry_checks open_checks
  entered = past (past all (not_off _ sizes)) (not_off _ (lt-ltb r.entry (length (entries_of s.plan)) listed))

  same : {n : ℕ} → n ≡ given (open_checks e t (length r.message)) → n ≡ given lines
  same g = g ∙ ap₂ (λ (x : Entry) (y : ℕ). given (open_checks x y (length r.message))) at starts

  abbrev refused_by : ℕ → Replied
  refused_by n = record { number = n; flips = 0; delay = pos 0; buffers = r.buffers; station = s }

  pub entry_refused : (w : Refusal) → number_of w ≡ given (open_checks e t (length r.message)) → told (reply_as (Err w) s) r.buffers ≡ replied s r
  unfolding replied open_checks
  entry_refused w g =
      ap refused_by (same g)
      ∙ number_refused lines (settled s r) refl refused_by (λ z. not_zero w (same g ∙ z))
      ∙ rest (refused_reply s r.buffers) (settled s r) entered

  module _ (z : 0 ≡ given (open_checks e t (length r.message))) where
    pub entry_passed : settled s r ≡ replied s r
    unfolding replied open_checks
    entry_passed =
        zero_done lines (settled s r) refl (refused_reply s r.buffers) (sym (same z)) ∙ rest (refused_reply s r.buffers) (settled s r) entered

    pub entry_window : in_window (entry_for s r) (start_for s r) ≡ true
    unfolding open_checks
    entry_window = not-false _ ((zero_passed lines refl (sym (same z))).off 10)
