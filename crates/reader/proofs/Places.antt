-- What the code knows at a place says which lines of its table are the case.
use Prim.Native.Nat.{ℕ}
use mathlib.Core.Path.{◌≡◌, sym, ◌∙◌}
use mathlib.Core.Bool.{true, false}
use lib.Dec.{eqb}
use borrow.Author.Tests.{eq-eqb, ne_eqb}
use Rattle.lists.proofs.Checks.{tests}
use Rattle.lists.proofs.Tests.{and_yes, and_no_left, and_no_right}

-- the length of a body that a call gave, 0 or not
pub has_none : {r n : ℕ} → r ≡ n → r ≡ 0 → eqb n 0 ≡ true
has_none {r} {n} e h = eq-eqb n 0 (sym e ∙ h)

pub has_some : {r n : ℕ} → r ≡ n → (r ≡ 0 → ⊥) → eqb n 0 ≡ false
has_some {r} {n} e h = ne_eqb n 0 (λ z. h (e ∙ z))

pub ruleset lines = (tests, and_yes, and_no_left, and_no_right, has_none, has_some)
