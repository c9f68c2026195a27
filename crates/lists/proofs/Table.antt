-- A rule over the numbers below n, shown once by computation: the entries of a table, or two functions that are alike.
use mathlib.Core.Path.{◌≡◌, ◌∙◌, ap, sym}
use mathlib.Core.List.{List, [], ◌∷◌}
use Prim.Native.Nat.{ℕ, zero, suc, ◌+◌, ◌<◌}
use native.Mathlib.Nat.{add-zero, zero-add, add-suc, suc-add, le_of_suc-le-suc, not-suc-le-zero}
use lib.ListN.{get_or}

-- f i, f (i + 1), ..: n of them
abbrev pub tabulate : (ℕ → ℕ) → ℕ → ℕ → List ℕ
tabulate f i zero = []
tabulate f i (suc n) = f i ∷ tabulate f (suc i) n

from : (f : ℕ → ℕ) (i n k : ℕ) → k < n → get_or (tabulate f i n) k 0 ≡ f (i + k)
from f i zero k h = absurd (not-suc-le-zero h)
from f i (suc n) zero h = ap f (sym (add-zero i))
from f i (suc n) (suc k) h = from f (suc i) n k (le_of_suc-le-suc h) ∙ ap f (suc-add i k ∙ sym (add-suc i k))

-- a table that is f 0, f 1, .. by computation has f k at k
pub entry : (f : ℕ → ℕ) (n k : ℕ) → k < n → get_or (tabulate f 0 n) k 0 ≡ f k
entry f n k h = from f 0 n k h ∙ ap f (zero-add k)

-- two functions whose tables are one are equal below n
pub alike : (f g : ℕ → ℕ) (n k : ℕ) → tabulate f 0 n ≡ tabulate g 0 n → k < n → f k ≡ g k
alike f g n k e h = sym (entry f n k h) ∙ ap (λ (l : List ℕ). get_or l k 0) e ∙ entry g n k h
