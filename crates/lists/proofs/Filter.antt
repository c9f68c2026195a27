-- A filter, by its first element, over two lists joined, over images, and as long as its elements are many.
use Prim.Native.Nat.{suc}
use mathlib.Core.Path.{◌≡◌, refl, ap, ap₂, ◌∙◌}
use mathlib.Core.List.{List, [], ◌∷◌, ◌++◌, map}
use mathlib.Core.Bool.{Bool, true, false}
use lib.ListN.{length}
use Rattle.lists.specs.Lists.{pick, count_of, filter, All}

module _ {A : Type 0} (p : A → Bool) where
  pub filter_nil : filter p [] ≡ []
  unfolding filter
  filter_nil = refl

  pub filter_yes : (x : A) (v : List A) → p x ≡ true → filter p (x ∷ v) ≡ x ∷ filter p v
  unfolding filter
  filter_yes x v h = rw h

  pub filter_no : (x : A) (v : List A) → p x ≡ false → filter p (x ∷ v) ≡ filter p v
  unfolding filter
  filter_no x v h = rw h

  pub filter_append : (v w : List A) → filter p (v ++ w) ≡ filter p v ++ filter p w
  unfolding filter
  filter_append [] w = refl
  filter_append (x ∷ v) w = ap (λ (l : List A). pick (p x) (x ∷ l) l) (filter_append v w) ∙ go (p x)
    where
      go : (b : Bool) → pick b (x ∷ (filter p v ++ filter p w)) (filter p v ++ filter p w) ≡ pick b (x ∷ filter p v) (filter p v) ++ filter p w
      go true = refl
      go false = refl

  -- as many are kept as pass a test that says the same
  pub filter_length : (q : A → Bool) → ((x : A) → p x ≡ q x) → (v : List A) → length (filter p v) ≡ count_of q v
  unfolding filter count_of
  filter_length q h [] = refl
  filter_length q h (x ∷ v) = ap (λ (b : Bool). length (pick b (x ∷ filter p v) (filter p v))) (h x) ∙ go (q x) (filter_length q h v)
    where
      go : (b : Bool) → length (filter p v) ≡ count_of q v → length (pick b (x ∷ filter p v) (filter p v)) ≡ pick b (suc (count_of q v)) (count_of q v)
      go true e = ap suc e
      go false e = e

-- a test that the images pass exactly if what they are of passes another
pub filter_map : {A B : Type 0} (p : B → Bool) (q : A → Bool) (f : A → B) (v : List A) → All (λ (x : A). p (f x) ≡ q x) v
    → filter p (map f v) ≡ map f (filter q v)
unfolding filter All
filter_map p q f [] h = refl
filter_map {A} {B} p q f (x ∷ v) h = ap₂ (λ (b : Bool) (l : List B). pick b (f x ∷ l) l) h.0 (filter_map p q f v h.1) ∙ go (q x)
  where
    go : (b : Bool) → pick b (f x ∷ map f (filter q v)) (map f (filter q v)) ≡ map f (pick b (x ∷ filter q v) (filter q v))
    go true = refl
    go false = refl
