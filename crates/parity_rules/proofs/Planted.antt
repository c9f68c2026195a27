-- A set of numbers of 24 digits as a tree, the lowest digit at the root: to look one up costs a step for each digit until it is missed.
use mathlib.Core.Path.{◌≡◌, refl, sym, ap, ap₂, ◌∙◌}
use mathlib.Core.Bool.{Bool, true, false, false≢true}
use mathlib.Core.List.{List, [], ◌∷◌}
use mathlib.Core.Logic.{inl, inr}
use Prim.Native.Nat.{ℕ, zero, suc, ◌/◌, ◌%◌, ◌<◌}
use native.Mathlib.Omega.{arith}
use lib.Bits.{bit_xor, xor_mod}
use lib.Dec.{eqb}
use Rattle.lists.specs.Lists.{pick, Among}
use Rattle.lists.proofs.Xor.{bit_ind, xor_half}

-- ---- the tree: nothing, a number's end, or what goes on with the digit 0 and with 1
pub data Tree : Type 0 where
  none : Tree
  end : Tree
  node : Tree → Tree → Tree

abbrev even : Tree → Tree
even none = none
even end = none
even (node a b) = a

abbrev odd : Tree → Tree
odd none = none
odd end = none
odd (node a b) = b

abbrev ended : Tree → Bool
ended none = false
ended end = true
ended (node a b) = false

-- the tree with x, of n digits
unfoldable pub put : ℕ → ℕ → Tree → Tree
put zero x t = end
put (suc n) x t =
    let c = eqb (x % 2) 0 in
    let deep = put n (x / 2) (pick c (even t) (odd t)) in
    pick c (node deep (odd t)) (node (even t) deep)

-- whether x, of n digits, is in the tree
unfoldable pub holds : ℕ → ℕ → Tree → Bool
holds zero x t = ended t
holds (suc n) x t = holds n (x / 2) (pick (eqb (x % 2) 0) (even t) (odd t))

-- whether the XOR of a and b is missing; it is made digit by digit, no further than need be
unfoldable pub lacks : ℕ → ℕ → ℕ → Tree → Bool
lacks zero a b none = true
lacks zero a b end = false
lacks zero a b (node x y) = true
lacks (suc n) a b none = true
lacks (suc n) a b end = true
lacks (suc n) a b (node x y) = lacks n (a / 2) (b / 2) (pick (eqb (a % 2) (b % 2)) x y)

-- ---- what was put is held
put_holds : (n x : ℕ) (t : Tree) → holds n x (put n x t) ≡ true
unfolding put holds
put_holds zero x t = refl
put_holds (suc n) x t = go (eqb (x % 2) 0) (put_holds n (x / 2) (even t)) (put_holds n (x / 2) (odd t))
  where
    go : (c : Bool) → holds n (x / 2) (put n (x / 2) (even t)) ≡ true → holds n (x / 2) (put n (x / 2) (odd t)) ≡ true
        → holds n (x / 2)
        (pick c (even (pick c (node (put n (x / 2) (pick c (even t) (odd t))) (odd t)) (node (even t) (put n (x / 2) (pick c (even t) (odd t))))))
        (odd (pick c (node (put n (x / 2) (pick c (even t) (odd t))) (odd t)) (node (even t) (put n (x / 2) (pick c (even t) (odd t)))))))
        ≡ true
    go true a b = a
    go false a b = b

put_keeps : (n x y : ℕ) (t : Tree) → holds n y t ≡ true → holds n y (put n x t) ≡ true
unfolding put holds
put_keeps zero x y t h = refl
put_keeps (suc n) x y t h = go (eqb (x % 2) 0) (eqb (y % 2) 0) h (put_keeps n (x / 2) (y / 2) (even t)) (put_keeps n (x / 2) (y / 2) (odd t))
  where
    go : (c d : Bool) → holds n (y / 2) (pick d (even t) (odd t)) ≡ true
        → (holds n (y / 2) (even t) ≡ true → holds n (y / 2) (put n (x / 2) (even t)) ≡ true)
        → (holds n (y / 2) (odd t) ≡ true → holds n (y / 2) (put n (x / 2) (odd t)) ≡ true)
        → holds n (y / 2)
        (pick d (even (pick c (node (put n (x / 2) (pick c (even t) (odd t))) (odd t)) (node (even t) (put n (x / 2) (pick c (even t) (odd t))))))
        (odd (pick c (node (put n (x / 2) (pick c (even t) (odd t))) (odd t)) (node (even t) (put n (x / 2) (pick c (even t) (odd t)))))))
        ≡ true
    go true true h f g = f h
    go true false h f g = h
    go false true h f g = h
    go false false h f g = g h

-- ---- what is missing is not held
bare_lacks : (n x : ℕ) → holds n x none ≡ true → ⊥
unfolding holds
bare_lacks zero x e = false≢true e
bare_lacks (suc n) x e = go (eqb (x % 2) 0) e (bare_lacks n (x / 2))
  where
    go : (c : Bool) → holds n (x / 2) (pick c none none) ≡ true → (holds n (x / 2) none ≡ true → ⊥) → ⊥
    go true e f = f e
    go false e f = f e

-- after a number's end there is nothing
end_lacks : (n x : ℕ) → holds (suc n) x end ≡ true → ⊥
unfolding holds
end_lacks n x e = bare_lacks (suc n) x e

-- two digits make the digit 0 where they are the same
digit_same : (a : ℕ) → a < 2 → (b : ℕ) → b < 2 → eqb (bit_xor a b) 0 ≡ eqb a b
digit_same =
    bit_ind (λ a. (b : ℕ) → b < 2 → eqb (bit_xor a b) 0 ≡ eqb a b) (bit_ind (λ b. eqb (bit_xor 0 b) 0 ≡ eqb 0 b) refl refl)
    (bit_ind (λ b. eqb (bit_xor 1 b) 0 ≡ eqb 1 b) refl refl)

held_xor : (n a b : ℕ) (t : Tree) → holds (suc n) (bit_xor a b) t ≡ holds n (bit_xor (a / 2) (b / 2)) (pick (eqb (a % 2) (b % 2)) (even t) (odd t))
unfolding holds
held_xor n a b t =
    ap₂ (λ (x : ℕ) (c : Bool). holds n x (pick c (even t) (odd t))) (xor_half a b)
    (ap (λ (x : ℕ). eqb x 0) (xor_mod a b 1) ∙ digit_same (a % 2) (omega arith) (b % 2) (omega arith))

pub missing : (n a b : ℕ) (t : Tree) → lacks n a b t ≡ true → holds n (bit_xor a b) t ≡ true → ⊥
unfolding lacks holds
missing zero a b none l h = false≢true h
missing zero a b end l h = false≢true l
missing zero a b (node x y) l h = false≢true h
missing (suc n) a b none l h = bare_lacks (suc n) (bit_xor a b) h
missing (suc n) a b end l h = end_lacks n (bit_xor a b) h
missing (suc n) a b (node x y) l h = missing n (a / 2) (b / 2) (pick (eqb (a % 2) (b % 2)) x y) l (sym (held_xor n a b (node x y)) ∙ h)

-- ---- a whole list
unfoldable pub plant : List ℕ → Tree
plant [] = none
plant (x ∷ l) = put 24 x (plant l)

pub planted : (x : ℕ) (l : List ℕ) → Among x l → holds 24 x (plant l) ≡ true
unfolding plant
planted x [] h = absurd h
planted x (y ∷ l) (inl e) = rw e (put_holds 24 y (plant l))
planted x (y ∷ l) (inr h) = put_keeps 24 y x (plant l) (planted x l h)
