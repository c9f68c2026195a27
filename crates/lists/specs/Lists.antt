-- Definitions on tests and lists of any element type, for contracts.
use Rattle.std.specs.Prelude.{ℕ, zero, suc, ◌+◌, ◌*◌, ◌≡◌, ◌⊎◌, Bool, true, false, ◌&&◌, List, [], ◌∷◌, ◌++◌, length, drop}

-- one of two values, by a test
abbrev pub pick : {A : Type 0} → Bool → A → A → A
pick true a b = a
pick false a b = b

-- p holds of 0, 1, …, n - 1
unfoldable pub every : (ℕ → Bool) → ℕ → Bool
every p zero = true
every p (suc n) = every p n && p n

-- how many numbers below n p holds of
unfoldable pub count_below : (ℕ → Bool) → ℕ → ℕ
count_below p zero = 0
count_below p (suc n) = pick (p n) 1 0 + count_below p n

-- the number that bits spell after n, first the most significant
abbrev pub spelled : ℕ → List ℕ → ℕ
spelled n [] = n
spelled n (b ∷ bs) = spelled (n * 2 + b) bs

-- how many elements p holds of
unfoldable pub count_of : {A : Type 0} → (A → Bool) → List A → ℕ
count_of p [] = 0
count_of p (x ∷ xs) =
    let n = count_of p xs in
    pick (p x) (suc n) n

-- the place of the first element that p holds of, or the length where there is none
unfoldable pub index_of : {A : Type 0} → (A → Bool) → List A → ℕ
index_of p [] = 0
index_of p (x ∷ xs) =
    let n = index_of p xs in
    pick (p x) 0 (suc n)

-- the elements that p holds of, in their order
unfoldable pub filter : {A : Type 0} → (A → Bool) → List A → List A
filter p [] = []
filter p (x ∷ xs) =
    let v = filter p xs in
    pick (p x) (x ∷ v) v

-- the slots l with the list v laid over their front: v, and then what stood beyond it
unfoldable pub over : {A : Type 0} → List A → List A → List A
over v l = v ++ drop (length v) l

-- f 0 + f 1 + … + f (n - 1)
unfoldable pub total : (ℕ → ℕ) → ℕ → ℕ
total f zero = 0
total f (suc n) = total f n + f n

-- P holds of each element
unfoldable pub All : {A : Type 0} → (A → Type 0) → List A → Type 0
All P [] = Unit {0}
All P (x ∷ xs) = P x × All P xs

-- x is one of the elements
abbrev pub Among : {A : Type 0} → A → List A → Type 0
Among x [] = ⊥
Among x (y ∷ l) = (x ≡ y) ⊎ Among x l

-- no element stands twice
abbrev pub Distinct : {A : Type 0} → List A → Type 0
Distinct [] = Unit {0}
Distinct (x ∷ l) = All (λ y. x ≡ y → ⊥) l × Distinct l
