-- What a loop over a run of bytes keeps true: the run from i on ends where the whole one does.
use Prim.Native.Nat.{ℕ, ◌+◌, ◌≤◌, ◌<◌}
use mathlib.Core.Path.{◌≡◌, sym, ◌∙◌}
use mathlib.Core.Bool.{Bool, true, false}
use mathlib.Core.List.{List}
use lib.ListN.{length, get_or}
use Rattle.text_rules.specs.Line.{run_end}
use Rattle.text_rules.proofs.Runs.{run_more, run_stop, run_none}

-- ---- `search ends` tells the end, x, from the byte at i
module _ (p : ℕ → Bool) (s : List ℕ) {i x : ℕ} (e : run_end p s i ≡ x) where
  pub ran_out : length s ≤ i → length s ≡ x
  ran_out h = sym (run_none p s i h) ∙ e

  module _ (h : i < length s) where
    pub stopped : p (get_or s i 0) ≡ false → i ≡ x
    stopped k = sym (run_stop p s i h k) ∙ e

    pub ran_on : p (get_or s i 0) ≡ true → run_end p s (i + 1) ≡ x
    ran_on k = run_more p s i h k ∙ e

pub ruleset ends = (ran_out, stopped, ran_on)
