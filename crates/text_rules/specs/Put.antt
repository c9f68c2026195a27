-- Text laid into a buffer, and numbers in decimal.
use Rattle.std.specs.Prelude.{ℕ, zero, suc, ◌+◌, ◌/◌, ◌%◌, min, List, [], ◌∷◌, ◌++◌, ◌≡◌, ltb, length, set}
use Rattle.lists.specs.Lists.{pick}

-- the text laid into l from the place at on, as far as l goes: a `set` beyond the end changes nothing
unfoldable pub laid : List ℕ → ℕ → List ℕ → List ℕ
laid [] at l = l
laid (b ∷ t) at l = laid t (suc at) (set l at b)

-- a call laid the text t into a buffer at the place at, and answered the place after it, or the buffer's length
pub record Put (t : List ℕ) (at : ℕ) (before after : List ℕ) (r : ℕ) : Type 0 where
  pub next : r ≡ min (length before) (at + length t)
  pub text : after ≡ laid t at before

-- n in decimal, of at most k + 1 digits
unfoldable pub decimal_in : ℕ → ℕ → List ℕ
decimal_in zero n = (48 + n % 10) ∷ []
decimal_in (suc k) n = let more = decimal_in k (n / 10) in pick (ltb n 10) [] more ++ ((48 + n % 10) ∷ [])

-- n in decimal
unfoldable pub decimal : ℕ → List ℕ
decimal n = decimal_in n n

-- numbers behind a text: a space (32) and the number, for each
unfoldable pub numbers_behind : List ℕ → List ℕ
numbers_behind [] = []
numbers_behind (n ∷ ns) = (32 ∷ decimal n) ++ numbers_behind ns
