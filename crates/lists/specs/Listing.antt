-- A listing of worked examples: what the definitions give beside what the paper gives, with one claim for the whole.
use Rattle.std.specs.Prelude.{ℕ, ◌≡◌, List, [], ◌∷◌, ◌++◌}

pub record Row : Type 0 where
  pub gives : List ℕ
  pub paper : List ℕ

abbrev pub row : List ℕ → List ℕ → Row
row a b = record { gives = a; paper = b }

-- every row says the same twice
abbrev pub Agrees : List Row → Type 0
Agrees [] = Unit {0}
Agrees (r ∷ rs) = (r.gives ≡ r.paper) × Agrees rs

-- a row that says the same twice, before a listing that agrees
infixr 5 ◌also◌
pub ◌also◌ : {P Q : Type 0} → P → Q → P × Q
p also q = (p, q)

-- two listings that agree are one that agrees
pub agrees_append : (a b : List Row) → Agrees a → Agrees b → Agrees (a ++ b)
agrees_append [] b ha hb = hb
agrees_append (r ∷ a) b ha hb = (ha.0, agrees_append a b ha.1 hb)
