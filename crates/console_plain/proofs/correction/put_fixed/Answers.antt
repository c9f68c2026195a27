-- `put_fixed` lays what the correction answers and leaves in its buffers.
use Prim.Native.Nat.{ℕ, ◌≤◌}
use native.Mathlib.Omega.{arith}
use mathlib.Core.Path.{◌≡◌, ap, ◌∙◌}
use mathlib.Core.List.{List}
use lib.ListN.{length, replicate, length-replicate}
use Rattle.text_rules.proofs.Laid.{put_as}
use Rattle.parity_rules.specs.Answers.{buffers, Correction}
use Rattle.parity_rules.specs.Correction.{correction}
use Rattle.console_rules.specs.Parity.{corrected_text, fixed_text}
use Rattle.console_plain.proofs.correction.put_fixed.Goals as goal

-- the buffers that were lent hold zeros
into_zeros : (msg marks : List ℕ) (overlay limit : ℕ) {fixed places zeros : List ℕ} {o : Correction}
    → o ≡ correction msg marks overlay limit (buffers fixed places) → fixed ≡ zeros → places ≡ zeros
    → o ≡ correction msg marks overlay limit (buffers zeros zeros)
into_zeros msg marks overlay limit e h k = rw (h, k) at e

-- the buffer of places is as long as it was lent, and is told whole
still-short : (n : ℕ) {k : ℕ} {lent : List ℕ} → k ≡ length lent → lent ≡ replicate n 0 → n ≤ 32 → k ≤ 124
still-short n e h few = omega (arith, e ∙ ap length h ∙ length-replicate n 0)

pub put_corrected-requires : goal.put_corrected-requires
unfolding fixed_text
put_corrected-requires c = search still-short

pub returns : goal.returns
unfolding fixed_text
returns c = search (into_zeros, put_as corrected_text)
