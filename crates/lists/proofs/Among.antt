-- What stands in a list joined, mapped or filtered, and lists in which nothing stands twice.
use mathlib.Core.Path.{◌≡◌, refl, ap}
use mathlib.Core.Logic.{◌⊎◌, inl, inr, ⊎_elim}
use mathlib.Core.List.{List, [], ◌∷◌, ◌++◌, map}
use mathlib.Core.Bool.{Bool, true, false}
use Rattle.lists.specs.Lists.{pick, filter, All, Among, Distinct}
use Rattle.lists.proofs.Held.{all_append}
use Rattle.lists.proofs.Each.{all_image, all_kept}

module _ {A : Type 0} where
  pub among_left : (x : A) (l r : List A) → Among x l → Among x (l ++ r)
  among_left x [] r h = absurd h
  among_left x (y ∷ l) r (inl e) = inl e
  among_left x (y ∷ l) r (inr h) = inr (among_left x l r h)

  pub among_right : (x : A) (l r : List A) → Among x r → Among x (l ++ r)
  among_right x [] r h = h
  among_right x (y ∷ l) r h = inr (among_right x l r h)

  pub among_either : (x : A) (l r : List A) → Among x (l ++ r) → Among x l ⊎ Among x r
  among_either x [] r h = inr h
  among_either x (y ∷ l) r (inl e) = inl (inl e)
  among_either x (y ∷ l) r (inr h) = ⊎_elim (λ a. inl (inr a)) (λ b. inr b) (among_either x l r h)

  -- one that passes a test is among those that pass it
  pub among_kept : (p : A → Bool) (x : A) (l : List A) → p x ≡ true → Among x l → Among x (filter p l)
  unfolding filter
  among_kept p x [] e h = absurd h
  among_kept p x (y ∷ l) e (inl q) = rw (← q, e) (inl refl)
  among_kept p x (y ∷ l) e (inr h) = go (p y) (among_kept p x l e h)
    where
      go : (b : Bool) → Among x (filter p l) → Among x (pick b (y ∷ filter p l) (filter p l))
      go true a = inr a
      go false a = a

  pub distinct_append : (l r : List A) → Distinct l → Distinct r → All (λ x. All (λ y. x ≡ y → ⊥) r) l → Distinct (l ++ r)
  unfolding All
  distinct_append [] r hl hr c = hr
  distinct_append (x ∷ l) r hl hr c = (all_append (λ y. x ≡ y → ⊥) l r hl.0 c.0, distinct_append l r hl.1 hr c.1)

  pub distinct_kept : (p : A → Bool) (l : List A) → Distinct l → Distinct (filter p l)
  unfolding filter
  distinct_kept p [] h = tt
  distinct_kept p (x ∷ l) h = go (p x) (distinct_kept p l h.1)
    where
      go : (b : Bool) → Distinct (filter p l) → Distinct (pick b (x ∷ filter p l) (filter p l))
      go true a = (all_kept (λ y. x ≡ y → ⊥) (λ y. x ≡ y → ⊥) p (λ y e n. n) l h.0, a)
      go false a = a

module _ {A B : Type 0} (f : A → B) where
  pub among_image : (x : A) (l : List A) → Among x l → Among (f x) (map f l)
  among_image x [] h = absurd h
  among_image x (y ∷ l) (inl e) = inl (ap f e)
  among_image x (y ∷ l) (inr h) = inr (among_image x l h)

  -- a map that tells elements apart, those of which P holds
  pub distinct_image : (P : A → Type 0) → ((x y : A) → P x → P y → f x ≡ f y → x ≡ y) → (l : List A) → All P l → Distinct l → Distinct (map f l)
  unfolding All
  distinct_image P one [] h d = tt
  distinct_image P one (x ∷ l) h d = (
    all_image f (λ y. P y × (x ≡ y → ⊥)) (λ z. f x ≡ z → ⊥) (λ y p e. p.1 (one x y h.0 p.0 e)) l (both l h.1 d.0),
    distinct_image P one l h.1 d.1,
  )
    where
      both : (l : List A) → All P l → All (λ y. x ≡ y → ⊥) l → All (λ y. P y × (x ≡ y → ⊥)) l
      both [] h n = tt
      both (y ∷ l) h n = ((h.0, n.0), both l h.1 n.1)
