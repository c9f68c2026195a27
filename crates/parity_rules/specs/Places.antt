-- Places: the bits that a mark buffer marks, by their numbers, and those that a correction tells.
use Rattle.std.specs.Prelude.{ℕ, zero, suc, ◌-◌, ◌≤◌, ◌≡◌, ◌⊎◌, ◌↔◌, List, [], ◌∷◌, eqb, length, get_or}
use Rattle.lists.specs.Lists.{pick}
use Rattle.parity_rules.specs.Answers.{Correction}
use Rattle.parity_rules.specs.Messages.{bits}
use Rattle.parity_rules.specs.Correction.{size_of}

-- the numbers of the ones among some bits, the first of which is bit i
unfoldable pub places_from : ℕ → List ℕ → List ℕ
places_from i [] = []
places_from i (zero ∷ s) = places_from (suc i) s
places_from i (suc b ∷ s) = i ∷ places_from (suc i) s

-- "bits are numbered from 1": the places of a mark buffer, rising
abbrev pub places_in : List ℕ → List ℕ
places_in marks = places_from 1 (bits marks)

-- the places that a correction tells: those of its buffer; a refusal tells none
abbrev pub places_told : Correction → List ℕ
places_told o = pick (eqb o.number 0) (places_in o.buffers.places) []

-- ---- what the numbers of a mark buffer's places are
-- each is at least i, and above the one before it
abbrev pub Rises : ℕ → List ℕ → Type 0
Rises i [] = Unit {0}
Rises i (p ∷ ps) = (i ≤ p) × Rises (suc p) ps

-- one of them is k
abbrev pub Among : ℕ → List ℕ → Type 0
Among k [] = ⊥
Among k (p ∷ ps) = (k ≡ p) ⊎ Among k ps

-- they rise from 1 on, a number is among them exactly if its bit is marked, and they are as many as are marked
pub record Numbered (marks ps : List ℕ) : Type 0 where
  pub rising : Rises 1 ps
  pub exactly : (i : ℕ) → Among i ps ↔ ((1 ≤ i) × (get_or (bits marks) (i - 1) 0 ≡ 1))
  pub counted : length ps ≡ size_of (bits marks)
