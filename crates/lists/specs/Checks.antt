-- A call's checks in their order: the number that each gives, what stands beside it, and whether it is the case; and what the call comes to.
use Rattle.std.specs.Prelude.{ℕ, ◌≡◌, List, [], ◌∷◌, Bool, true, false, not, ◌&&◌, eqb}
use Rattle.lists.specs.Lists.{pick}

-- a line of the table, for one call
pub record Check : Type 0 where
  pub number : ℕ
  pub beside : ℕ
  pub is_case : Bool

-- "a refusal returns its number alone": 0 stands beside it
abbrev pub check : ℕ → Bool → Check
check n b = record { number = n; beside = 0; is_case = b }

-- a number with a value beside it
abbrev pub check_with : ℕ → ℕ → Bool → Check
check_with n v b = record { number = n; beside = v; is_case = b }

-- "checks run in the order of these numbers": the first that is the case gives the refusal, else the call is done
unfoldable pub checked : {A : Type 0} → List Check → (Check → A) → A → A
checked [] refuse done = done
checked (c ∷ cs) refuse done = pick c.is_case (refuse c) (checked cs refuse done)

-- the number given, 0 for done
abbrev pub given : List Check → ℕ
given cs = checked cs (λ c. c.number) 0

-- ---- lines by their numbers
-- the first line with this number
abbrev pub line_of : ℕ → List Check → Check
line_of n [] = check n false
line_of n (c ∷ cs) = pick (eqb c.number n) c (line_of n cs)

-- its condition
abbrev pub case_of : ℕ → List Check → Bool
case_of n cs = (line_of n cs).is_case

-- the lines from it on
abbrev pub from : ℕ → List Check → List Check
from n [] = []
from n (c ∷ cs) = pick (eqb c.number n) (c ∷ cs) (from n cs)

abbrev pub unless : Bool → Type 0 → Type 0
unless true A = Unit {0}
unless false A = A

-- no line before it is the case
abbrev pub Before : ℕ → List Check → Type 0
Before n [] = Unit {0}
Before n (c ∷ cs) = unless (eqb c.number n) ((c.is_case ≡ false) × Before n cs)

-- no line at all is the case
abbrev pub None : List Check → Type 0
None [] = Unit {0}
None (c ∷ cs) = (c.is_case ≡ false) × None cs

-- no line gives 0, which means done
abbrev pub numbered : List Check → Bool
numbered [] = true
numbered (c ∷ cs) = not (eqb c.number 0) && numbered cs
