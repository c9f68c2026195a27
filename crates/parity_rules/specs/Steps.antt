-- What the private functions say of their work. No public promise cites these.
use Rattle.std.specs.Prelude.{ℕ, zero, suc, ◌+◌, ◌*◌, ◌≤◌, ◌<◌, ◌≡◌, List, [], ◌∷◌, eqb, length, get_or, take, drop, replicate}
use Rattle.std.specs.Int.Bits.{bit_xor}
use Rattle.lists.specs.Lists.{pick, spelled}
use Rattle.parity_rules.specs.Division.{divide, syndrome}
use Rattle.parity_rules.specs.Correction.{matching, size_of}

-- the byte h at x^16 to x^23, moved up by eight powers and reduced
unfoldable pub moved_up : ℕ → ℕ
moved_up h = divide (h * 65536) (replicate 8 0)

-- the syndromes of the marked places
unfoldable pub syndromes_of : List ℕ → List ℕ
syndromes_of [] = []
syndromes_of (zero ∷ ms) = syndromes_of ms
syndromes_of (suc m ∷ ms) = syndrome (length ms) ∷ syndromes_of ms

-- a marked place's syndrome before some syndromes; an unmarked place has none
abbrev pub with_if : ℕ → ℕ → List ℕ → List ℕ
with_if zero syn l = l
with_if (suc b) syn l = syn ∷ l

-- the first n of a list, the last of them at the front: the syndromes are kept so, and the next one to decide is the n-th
unfoldable pub back : ℕ → List ℕ → List ℕ
back zero l = []
back (suc n) l = get_or l n 0 ∷ back n l

-- in how many ways some of the numbers, each taken or not, have the XOR `want`
unfoldable pub ways : ℕ → List ℕ → ℕ
ways want [] = pick (eqb want 0) 1 0
ways want (s ∷ l) = ways (bit_xor want s) l + ways want l

-- one bit b more before those that are noted, with its syndrome: the count and the syndromes afterwards
pub record Noted (many : ℕ) (syns : List ℕ) (b syn many' : ℕ) (syns' : List ℕ) : Type 0 where
  pub room : length syns' ≡ 12
  pub counted : many' ≡ many + b
  pub kept : many' ≤ 12 → back many' syns' ≡ with_if b syn (back many syns)

-- how many places are marked, and the syndromes of the marked ones where there are at most 12
pub record Gathered (ms : List ℕ) (many : ℕ) (syns : List ℕ) : Type 0 where
  pub counted : many ≡ size_of ms
  pub kept : many ≤ 12 → back many syns ≡ syndromes_of ms

-- s is the one matching subset of the places from i on, of which k are marked: those whose syndromes are the first k
pub record Left (ms syns : List ℕ) (i k want : ℕ) (s : List ℕ) : Type 0 where
  pub few : k ≤ 12
  pub only : matching want (drop i ms) ≡ s ∷ []
  pub rest : back k syns ≡ syndromes_of (drop i ms)

-- s is the one matching subset from i on: whether i is in it, and what is left after i
pub record Chosen (ms syns : List ℕ) (i want : ℕ) (s : List ℕ) (taken k' want' : ℕ) : Type 0 where
  pub small : taken < 2
  pub head : s ≡ taken ∷ drop 1 s
  pub left : Left ms syns (i + 1) k' want' (drop 1 s)

-- the same for the eight places from i on
pub record ChosenByte (ms syns : List ℕ) (i : ℕ) (s : List ℕ) (mask taken k' want' : ℕ) : Type 0 where
  pub small : mask < 256
  pub few : taken ≤ 8
  pub eight : mask ≡ spelled 0 (take 8 s)
  pub counted : taken + size_of (drop 8 s) ≡ size_of s
  pub left : Left ms syns (i + 8) k' want' (drop 8 s)
