-- The text of every line of the aircraft fits 512 bytes, where its numbers have the bits of their types.
use Prim.Native.Nat.{ℕ, suc, ◌+◌, ◌-◌, ◌*◌, ◌≤◌, ◌<◌}
use native.Mathlib.Omega.{arith}
use mathlib.Core.Path.{◌≡◌}
use mathlib.Core.List.{List, [], ◌∷◌}
use lib.Dec.{ltb}
use lib.ListN.{length, length-append}
use Rattle.std.specs.Prelude.{Option}
use Rattle.text_rules.proofs.Decimal.{decimal_length, decimal_fits}
use Rattle.text_rules.proofs.HexMade.{hex_of_length}
use Rattle.console_rules.specs.Texts.{done_text, refusal_text}
use Rattle.model_rules.specs.declared.state.Holder.{Holder}
use Rattle.model_rules.specs.Lockout.{locks}
use Rattle.console_rules.proofs.Short.{either_fits}
use Rattle.console_rules.specs.Aircraft.{sent_text, holder_text, timer_text, lock_text, locks_text, shown_text}

pub refusal_fits : (n : ℕ) → n < 256 → length (refusal_text n) ≤ 512
unfolding refusal_text
refusal_fits n h = simp length-append (omega (arith, decimal_length 2 n (omega arith)))

pub sent_fits : (l : List ℕ) → length l ≤ 14 → length (done_text (sent_text l)) ≤ 512
unfolding done_text sent_text
sent_fits [] h = omega arith
sent_fits (b ∷ l) h = simp length-append (omega (arith, hex_of_length (b ∷ l)))

-- ---- the locked codes: five bytes each at most

timer_fits : (k : ℕ) → k < 79 → length (timer_text k) ≤ 5
unfolding timer_text
timer_fits k h =
    either_fits (ltb k 16) _ _
    (simp length-append (omega (arith, decimal_length 1 k (omega arith))))
    (simp length-append (omega (arith, decimal_length 1 (k - 15) (omega arith))))

lock_fits : (k : ℕ) (l : Option ℕ) → k < 79 → length (lock_text k l) ≤ 5
unfolding lock_text
lock_fits k l h = either_fits (locks l) _ _ (omega (arith, timer_fits k h)) (omega arith)

locks_fit : (k : ℕ) (ts : List (Option ℕ)) → k + length ts ≤ 79 → length (locks_text k ts) ≤ 5 * length ts
unfolding locks_text
locks_fit k [] h = omega arith
locks_fit k (t ∷ ts) h = simp length-append (omega (arith, lock_fits k t (omega arith), locks_fit (suc k) ts (omega arith)))

-- the longest line: 79 locked codes
pub shown_fits : (time : ℕ) (h : Option Holder) (n : ℕ) (ts : List (Option ℕ)) → time < 4294967296 → length (holder_text h) ≤ 3
    → n < 4294967296 → length ts ≡ 79 → length (shown_text time h n ts) ≤ 512
unfolding done_text
shown_fits time h n ts k a b e =
    simp length-append (omega (arith, decimal_fits time k, a, decimal_fits n b, locks_fit 0 ts (omega arith)))
