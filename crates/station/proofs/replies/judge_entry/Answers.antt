-- `station::replies::judge_entry` meets its contract: check by check.
use Rattle.std.proofs.Common.{◌≡◌, ℕ, true, false, not, eqb, sym, ap, ◌∙◌, eq-eqb, ne_eqb}
use Rattle.lists.specs.Checks.{Check}
use Rattle.lists.proofs.Checks.{all, stop, end, tests, not_on, not_off}
use Rattle.frames_rules.specs.Formats.{length_of}
use Rattle.planner_rules.specs.declared.request.Request.{Request}
use Rattle.station_rules.specs.Replies.{expected, open_checks}
use Rattle.station.proofs.replies.judge_entry.Goals as goal

-- the length that the code compares with is that of the expected format
module _ (n : ℕ) (q : Request) {f g l : ℕ} (hf : f ≡ expected q) (hg : g ≡ f) (hl : l ≡ length_of g) where
  same : l ≡ length_of (expected q)
  same = hl ∙ ap length_of (hg ∙ hf)

  other_length : (n ≡ l → ⊥) → not (eqb n (length_of (expected q))) ≡ true
  other_length h = not_on (eqb n (length_of (expected q))) (ne_eqb n (length_of (expected q)) (λ z. h (z ∙ sym same)))

  right-length : n ≡ l → not (eqb n (length_of (expected q))) ≡ false
  right-length h = not_off (eqb n (length_of (expected q))) (eq-eqb n (length_of (expected q)) (h ∙ same))

ruleset lines = (tests, other_length, right-length)

pub returns-then-not-is_open : goal.returns-then-not-is_open
unfolding open_checks
returns-then-not-is_open c = stop (λ (x : Check). x.number) 0 8 all (search lines depth 12) (search lines)

pub returns-then-n-length_of : goal.returns-then-n-length_of
unfolding open_checks
returns-then-n-length_of c = stop (λ (x : Check). x.number) 0 9 all (search lines depth 12) (search lines)

pub returns-then-not-in_window : goal.returns-then-not-in_window
unfolding open_checks
returns-then-not-in_window c = stop (λ (x : Check). x.number) 0 10 all (search lines depth 12) (search lines)

pub returns : goal.returns
unfolding open_checks
returns c = end (λ (x : Check). x.number) 0 all (search lines depth 12)
