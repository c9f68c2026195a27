-- What holds of each element: of one more, of two lists joined, of a part, of one repeated, under an implication.
use Prim.Native.Nat.{ℕ, zero, suc}
use mathlib.Core.List.{List, [], ◌∷◌, ◌++◌}
use lib.ListN.{take, drop, replicate}
use Rattle.lists.specs.Lists.{All}

module _ {A : Type 0} (P : A → Type 0) where
  pub all_nil : All P []
  unfolding All
  all_nil = tt

  pub all_head : (x : A) (v : List A) → All P (x ∷ v) → P x
  unfolding All
  all_head x v a = a.0

  pub all_tail : (x : A) (v : List A) → All P (x ∷ v) → All P v
  unfolding All
  all_tail x v a = a.1

  pub all_cons : (x : A) (v : List A) → P x → All P v → All P (x ∷ v)
  unfolding All
  all_cons x v h a = (h, a)

  pub all_append : (v w : List A) → All P v → All P w → All P (v ++ w)
  unfolding All
  all_append [] w a b = b
  all_append (x ∷ v) w a b = (a.0, all_append v w a.1 b)

  pub all_take : (n : ℕ) (v : List A) → All P v → All P (take n v)
  unfolding All
  all_take zero v a = tt
  all_take (suc n) [] a = tt
  all_take (suc n) (x ∷ v) a = (a.0, all_take n v a.1)

  pub all_drop : (n : ℕ) (v : List A) → All P v → All P (drop n v)
  unfolding All
  all_drop zero v a = a
  all_drop (suc n) [] a = a
  all_drop (suc n) (x ∷ v) a = all_drop n v a.1

  pub all_of : ((x : A) → P x) → (v : List A) → All P v
  unfolding All
  all_of f [] = tt
  all_of f (x ∷ v) = (f x, all_of f v)

  pub all_snoc : (v : List A) (x : A) → All P v → P x → All P (v ++ (x ∷ []))
  unfolding All
  all_snoc [] x a h = (h, tt)
  all_snoc (y ∷ v) x a h = (a.0, all_snoc v x a.1 h)

  pub all_same : (n : ℕ) (x : A) → P x → All P (replicate n x)
  unfolding All
  all_same zero x h = tt
  all_same (suc n) x h = (h, all_same n x h)

pub all_map : {A : Type 0} (P Q : A → Type 0) → ((x : A) → P x → Q x) → (v : List A) → All P v → All Q v
unfolding All
all_map P Q f [] a = tt
all_map P Q f (x ∷ v) a = (f x a.0, all_map P Q f v a.1)
