-- What holds of each element: at a place, where one is replaced, where some are kept, and of the images under a function.
use Prim.Native.Nat.{ℕ, zero, suc, ◌≤◌, ◌<◌}
use native.Mathlib.Omega.{arith}
use mathlib.Core.Path.{◌≡◌, refl, sym, ap, ap₂, ◌∙◌}
use mathlib.Core.List.{List, [], ◌∷◌, map}
use mathlib.Core.Bool.{Bool, true, false, not}
use lib.ListN.{length, get_or, set}
use Rattle.lists.specs.Lists.{pick, count_of, filter, All}
use Rattle.lists.proofs.Count.{count_nil, count_yes, count_no}

module _ {A : Type 0} where
  pub all_at : (P : A → Type 0) (v : List A) (d : A) (k : ℕ) → All P v → k < length v → P (get_or v k d)
  unfolding All
  all_at P [] d k h l = absurd (omega arith)
  all_at P (x ∷ v) d zero h l = h.0
  all_at P (x ∷ v) d (suc k) h l = all_at P v d k h.1 (omega arith)

  pub all_set : (P : A → Type 0) (v : List A) (i : ℕ) (y : A) → P y → All P v → All P (set v i y)
  unfolding All
  all_set P [] i y p h = tt
  all_set P (x ∷ v) zero y p h = (p, h.1)
  all_set P (x ∷ v) (suc i) y p h = (h.0, all_set P v i y p h.1)

  -- of those kept the test is known too
  pub all_kept : (P Q : A → Type 0) (p : A → Bool) → ((x : A) → p x ≡ true → P x → Q x) → (v : List A) → All P v → All Q (filter p v)
  unfolding All filter
  all_kept P Q p f [] h = tt
  all_kept P Q p f (x ∷ v) h = go (p x) refl (all_kept P Q p f v h.1)
    where
      go : (b : Bool) → p x ≡ b → All Q (filter p v) → All Q (pick b (x ∷ filter p v) (filter p v))
      go true e r = (f x e h.0, r)
      go false e r = r

  -- no more are counted of those kept
  pub count_kept : (q p : A → Bool) (v : List A) → count_of q (filter p v) ≤ count_of q v
  unfolding filter
  count_kept q p [] = omega arith
  count_kept q p (x ∷ v) = go (p x) (q x) refl (count_kept q p v)
    where
      go : (b c : Bool) → q x ≡ c → count_of q (filter p v) ≤ count_of q v → count_of q (pick b (x ∷ filter p v) (filter p v)) ≤ count_of q (x ∷ v)
      go true true e h = omega (arith, h, count_yes q x (filter p v) e, count_yes q x v e)
      go true false e h = omega (arith, h, count_no q x (filter p v) e, count_no q x v e)
      go false true e h = omega (arith, h, count_yes q x v e)
      go false false e h = omega (arith, h, count_no q x v e)

  -- a test holds of each exactly if none fails it
  pub none_fail : (p : A → Bool) (v : List A) → All (λ (x : A). p x ≡ true) v → count_of (λ (x : A). not (p x)) v ≡ 0
  unfolding All
  none_fail p [] h = count_nil (λ (x : A). not (p x))
  none_fail p (x ∷ v) h = count_no (λ (x : A). not (p x)) x v (ap not h.0) ∙ none_fail p v h.1

  pub all_pass : (p : A → Bool) (v : List A) → count_of (λ (x : A). not (p x)) v ≡ 0 → All (λ (x : A). p x ≡ true) v
  unfolding All
  all_pass p [] e = tt
  all_pass p (x ∷ v) e = go (p x) refl (λ q. all_pass p v q)
    where
      go : (b : Bool) → p x ≡ b → (count_of (λ (x : A). not (p x)) v ≡ 0 → All (λ (x : A). p x ≡ true) v) → (p x ≡ true) × All (λ (x : A). p x ≡ true) v
      go true h ih = (h, ih (sym (count_no (λ (x : A). not (p x)) x v (ap not h)) ∙ e))
      go false h ih = absurd (omega (arith, e, count_yes (λ (x : A). not (p x)) x v (ap not h)))

module _ {A B : Type 0} (f : A → B) where
  pub all_image : (P : A → Type 0) (Q : B → Type 0) → ((x : A) → P x → Q (f x)) → (v : List A) → All P v → All Q (map f v)
  unfolding All
  all_image P Q g [] h = tt
  all_image P Q g (x ∷ v) h = (g x h.0, all_image P Q g v h.1)

  pub count_image : (q : B → Bool) (v : List A) → count_of q (map f v) ≡ count_of (λ (x : A). q (f x)) v
  unfolding count_of
  count_image q [] = refl
  count_image q (x ∷ v) = rw (count_image q v)

  -- the images where one element is replaced by one of the same image, at a place, where two functions agree, and where a change does not show
  pub image_set : (v : List A) (k : ℕ) (d y : A) → f y ≡ f (get_or v k d) → map f (set v k y) ≡ map f v
  image_set [] k d y e = refl
  image_set (x ∷ v) zero d y e = ap (λ (z : B). z ∷ map f v) e
  image_set (x ∷ v) (suc k) d y e = ap (λ (l : List B). f x ∷ l) (image_set v k d y e)

  pub image_at : (v : List A) (k : ℕ) (d : A) → get_or (map f v) k (f d) ≡ f (get_or v k d)
  image_at [] k d = refl
  image_at (x ∷ v) zero d = refl
  image_at (x ∷ v) (suc k) d = image_at v k d

  pub image_same : (g : A → B) (v : List A) → All (λ (x : A). f x ≡ g x) v → map f v ≡ map g v
  unfolding All
  image_same g [] h = refl
  image_same g (x ∷ v) h = ap₂ (λ (y : B) (l : List B). y ∷ l) h.0 (image_same g v h.1)

  pub image_through : (g : A → A) → ((x : A) → f (g x) ≡ f x) → (v : List A) → map f (map g v) ≡ map f v
  image_through g h [] = refl
  image_through g h (x ∷ v) = ap₂ (λ (y : B) (l : List B). y ∷ l) (h x) (image_through g h v)
