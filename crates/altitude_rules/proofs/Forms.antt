-- The forms of a code: told apart by their numbers, and how a code of each is read.
use Prim.Native.Nat.{ℕ, ◌<◌}
use native.Mathlib.Omega.{arith}
use mathlib.Core.Path.{◌≡◌, refl, sym, ap, ◌∙◌}
use lib.Dec.{eqb}
use Rattle.lists.specs.Lists.{pick}
use borrow.Author.Tests.{le-ltb}
use Rattle.altitude_rules.specs.Code.{Form, form_of, read_as, altitude}
use Rattle.altitude_rules.specs.Code.Form.{all_zero, metric, by25, by100, illegal}
use Rattle.altitude_rules.specs.Claims.{nth}

-- the form of a number
abbrev pub form_by : ℕ → Form
form_by n = pick (eqb n 0) all_zero (pick (eqb n 1) metric (pick (eqb n 2) by25 (pick (eqb n 3) by100 illegal)))

form_back : (f : Form) → form_by (nth f) ≡ f
form_back all_zero = refl
form_back metric = refl
form_back by25 = refl
form_back by100 = refl
form_back illegal = refl

pub form_by_is : (f : Form) (n : ℕ) → nth f ≡ n → f ≡ form_by n
form_by_is f n e = sym (form_back f) ∙ ap form_by e

-- a code of 13 bits is read by its form
pub read_by : (ac : ℕ) (f : Form) → ac < 8192 → form_of ac ≡ f → altitude ac ≡ read_as f ac
unfolding altitude
read_by ac f h e = rw (le-ltb 8191 ac (omega arith), e)
