-- The target of an address in a list, and what each change of the list does to it.
use borrow.Author.Tests.{eqb-true, eqb-false, eq-eqb, ne_eqb, lt-ltb, le-ltb, ltb-true, ltb-false}
use Prim.Native.Nat.{ℕ, suc}
use native.Mathlib.Omega.{arith}
use mathlib.Core.Path.{◌≡◌, refl, sym, ap, ◌∙◌}
use mathlib.Core.List.{List, [], ◌∷◌, ◌++◌, map}
use mathlib.Core.Bool.{Bool, true, false, not, true≢false, false≢true}
use lib.ListN.{length, get_or, set}
use lib.Dec.{eqb, ltb}
use Rattle.lists.specs.Lists.{pick, index_of, filter}
use Rattle.station_rules.specs.declared.state.Target.{Target}
use Rattle.station_rules.specs.State.{is_at, place_in, fresh}

abbrev pub has : ℕ → List Target → Bool
has a ts = ltb (place_in ts a) (length ts)

abbrev pub look : ℕ → List Target → Target
look a ts = get_or ts (place_in ts a) (fresh 0 0 0)

module _ (a : ℕ) where
  ltb_suc : (m n : ℕ) → ltb (suc m) (suc n) ≡ ltb m n
  ltb_suc m n = go (ltb m n) refl
    where
      go : (b : Bool) → ltb m n ≡ b → ltb (suc m) (suc n) ≡ ltb m n
      go true e = lt-ltb (suc m) (suc n) (omega (arith, ltb-true m n e)) ∙ sym e
      go false e = le-ltb (suc m) (suc n) (omega (arith, ltb-false m n e)) ∙ sym e

  pub has_nil : has a [] ≡ false
  unfolding index_of
  has_nil = refl

  pub has_cons : (x : Target) (ts : List Target) → has a (x ∷ ts) ≡ pick (is_at a x) true (has a ts)
  unfolding index_of
  has_cons x ts = go (is_at a x)
    where
      go : (b : Bool) → ltb (pick b 0 (suc (index_of (is_at a) ts))) (suc (length ts)) ≡ pick b true (has a ts)
      go true = lt-ltb 0 (suc (length ts)) (omega arith)
      go false = ltb_suc (index_of (is_at a) ts) (length ts)

  pub look_cons : (x : Target) (ts : List Target) → look a (x ∷ ts) ≡ pick (is_at a x) x (look a ts)
  unfolding index_of
  look_cons x ts = go (is_at a x)
    where
      go : (b : Bool) → get_or (x ∷ ts) (pick b 0 (suc (index_of (is_at a) ts))) (fresh 0 0 0) ≡ pick b x (look a ts)
      go true = refl
      go false = refl

  -- one more at the end
  pub has_snoc : (ts : List Target) (x : Target) → has a (ts ++ (x ∷ [])) ≡ pick (has a ts) true (is_at a x)
  has_snoc [] x = has_cons x [] ∙ (rw has_nil (last (is_at a x)))
    where
      last : (b : Bool) → pick b true false ≡ b
      last true = refl
      last false = refl
  has_snoc (y ∷ ts) x = has_cons y (ts ++ (x ∷ [])) ∙ (rw (has_cons y ts, has_snoc ts x) (go (is_at a y) (has a ts)))
    where
      go : (b c : Bool) → pick b true (pick c true (is_at a x)) ≡ pick (pick b true c) true (is_at a x)
      go true c = refl
      go false c = refl

  pub look_snoc : (ts : List Target) (x : Target) → look a (ts ++ (x ∷ [])) ≡ pick (has a ts) (look a ts) (pick (is_at a x) x (fresh 0 0 0))
  look_snoc [] x = look_cons x [] ∙ (rw has_nil)
  look_snoc (y ∷ ts) x = look_cons y (ts ++ (x ∷ [])) ∙ (rw (has_cons y ts, look_cons y ts, look_snoc ts x) (go (is_at a y) (has a ts)))
    where
      go : (b c : Bool)
          → pick b y (pick c (look a ts) (pick (is_at a x) x (fresh 0 0 0))) ≡ pick (pick b true c) (pick b y (look a ts)) (pick (is_at a x) x (fresh 0 0 0))
      go true c = refl
      go false c = refl

  -- a change of each target that keeps its address
  module _ (f : Target → Target) (keeps : (t : Target) → (f t).address ≡ t.address) where
    at_same : (t : Target) → is_at a (f t) ≡ is_at a t
    at_same t = rw (keeps t)

    pub has_map : (ts : List Target) → has a (map f ts) ≡ has a ts
    has_map [] = refl
    has_map (x ∷ ts) = has_cons (f x) (map f ts) ∙ (rw (at_same x, has_map ts) (sym (has_cons x ts)))

    pub look_map : (ts : List Target) → has a ts ≡ true → look a (map f ts) ≡ f (look a ts)
    look_map [] h = absurd (false≢true (sym has_nil ∙ h))
    look_map (x ∷ ts) h = look_cons (f x) (map f ts) ∙ (rw (at_same x, look_cons x ts) (go (is_at a x) (sym (has_cons x ts) ∙ h) (λ e. look_map ts e)))
      where
        go : (b : Bool) → pick b true (has a ts) ≡ true → (has a ts ≡ true → look a (map f ts) ≡ f (look a ts))
            → pick b (f x) (look a (map f ts)) ≡ f (pick b x (look a ts))
        go true e ih = refl
        go false e ih = ih e

  -- all targets of an address go
  module _ (b : ℕ) where
    abbrev other : Target → Bool
    other x = not (is_at b x)

    filter_cons : (x : Target) (ts : List Target) → filter other (x ∷ ts) ≡ pick (other x) (x ∷ filter other ts) (filter other ts)
    unfolding filter
    filter_cons x ts = refl

    away : (x : Target) → is_at b x ≡ true → (a ≡ b → ⊥) → is_at a x ≡ false
    away x e n = ne_eqb x.address a (λ q. n (sym q ∙ eqb-true x.address b e))

    pub has_other : (ts : List Target) → (a ≡ b → ⊥) → has a (filter other ts) ≡ has a ts
    unfolding filter
    has_other [] n = refl
    has_other (x ∷ ts) n = ap (has a) (filter_cons x ts) ∙ go (is_at b x) refl (has_other ts n) ∙ sym (has_cons x ts)
      where
        go : (c : Bool) → is_at b x ≡ c → has a (filter other ts) ≡ has a ts
            → has a (pick (not c) (x ∷ filter other ts) (filter other ts)) ≡ pick (is_at a x) true (has a ts)
        go true e ih = rw (away x e n) ih
        go false e ih = has_cons x (filter other ts) ∙ (rw ih)

    pub look_other : (ts : List Target) → (a ≡ b → ⊥) → look a (filter other ts) ≡ look a ts
    unfolding filter
    look_other [] n = refl
    look_other (x ∷ ts) n = ap (look a) (filter_cons x ts) ∙ go (is_at b x) refl (look_other ts n) ∙ sym (look_cons x ts)
      where
        go : (c : Bool) → is_at b x ≡ c → look a (filter other ts) ≡ look a ts
            → look a (pick (not c) (x ∷ filter other ts) (filter other ts)) ≡ pick (is_at a x) x (look a ts)
        go true e ih = rw (away x e n) ih
        go false e ih = look_cons x (filter other ts) ∙ (rw ih)

  -- the address itself is gone
  pub has_gone : (ts : List Target) → has a (filter (λ (x : Target). not (is_at a x)) ts) ≡ false
  unfolding filter
  has_gone [] = has_nil
  has_gone (x ∷ ts) = go (is_at a x) refl (has_gone ts)
    where
      go : (c : Bool) → is_at a x ≡ c → has a (filter (λ (x : Target). not (is_at a x)) ts) ≡ false
          → has a (pick (not c) (x ∷ filter (λ (x : Target). not (is_at a x)) ts) (filter (λ (x : Target). not (is_at a x)) ts)) ≡ false
      go true e ih = ih
      go false e ih = has_cons x _ ∙ (rw e ih)

-- the first target of b is replaced by one of the same address
module _ (a b : ℕ) (y : Target) (same : y.address ≡ b) where
  first_cons : (x : Target) (ts : List Target) → place_in (x ∷ ts) b ≡ pick (is_at b x) 0 (suc (place_in ts b))
  unfolding index_of
  first_cons x ts = refl

  y_at : is_at b y ≡ true
  y_at = eq-eqb y.address b same

  at_swap : (x : Target) → is_at b x ≡ true → is_at a y ≡ is_at a x
  at_swap x e = ap (λ (n : ℕ). eqb n a) (same ∙ sym (eqb-true x.address b e))

  put_cons : (x : Target) (ts : List Target) (c : Bool) → set (x ∷ ts) (pick c 0 (suc (place_in ts b))) y ≡ pick c (y ∷ ts) (x ∷ set ts (place_in ts b) y)
  put_cons x ts true = refl
  put_cons x ts false = refl

  pub has_put : (ts : List Target) → has a (set ts (place_in ts b) y) ≡ has a ts
  has_put [] = refl
  has_put (x ∷ ts) =
      ap (λ (n : ℕ). has a (set (x ∷ ts) n y)) (first_cons x ts)
      ∙ ap (has a) (put_cons x ts (is_at b x))
      ∙ go (is_at b x) refl (has_put ts)
      ∙ sym (has_cons a x ts)
    where
      go : (c : Bool) → is_at b x ≡ c → has a (set ts (place_in ts b) y) ≡ has a ts
          → has a (pick c (y ∷ ts) (x ∷ set ts (place_in ts b) y)) ≡ pick (is_at a x) true (has a ts)
      go true e ih = has_cons a y ts ∙ (rw (at_swap x e))
      go false e ih = has_cons a x _ ∙ (rw ih)

  pub look_put_other : (ts : List Target) → (a ≡ b → ⊥) → look a (set ts (place_in ts b) y) ≡ look a ts
  look_put_other [] n = refl
  look_put_other (x ∷ ts) n =
      ap (λ (m : ℕ). look a (set (x ∷ ts) m y)) (first_cons x ts)
      ∙ ap (look a) (put_cons x ts (is_at b x))
      ∙ go (is_at b x) refl (look_put_other ts n)
      ∙ sym (look_cons a x ts)
    where
      miss : (z : Target) → is_at b z ≡ true → is_at a z ≡ false
      miss z e = ne_eqb z.address a (λ q. n (sym q ∙ eqb-true z.address b e))

      go : (c : Bool) → is_at b x ≡ c → look a (set ts (place_in ts b) y) ≡ look a ts
          → look a (pick c (y ∷ ts) (x ∷ set ts (place_in ts b) y)) ≡ pick (is_at a x) x (look a ts)
      go true e ih = look_cons a y ts ∙ (rw (miss y y_at, miss x e))
      go false e ih = look_cons a x _ ∙ (rw ih)

pub look_put : (a : ℕ) (y : Target) → y.address ≡ a → (ts : List Target) → has a ts ≡ true → look a (set ts (place_in ts a) y) ≡ y
look_put a y same [] h = absurd (false≢true (sym (has_nil a) ∙ h))
look_put a y same (x ∷ ts) h =
    ap (λ (m : ℕ). look a (set (x ∷ ts) m y)) (first_cons a a y same x ts)
    ∙ ap (look a) (put_cons a a y same x ts (is_at a x))
    ∙ go (is_at a x) refl (sym (has_cons a x ts) ∙ h) (λ t. look_put a y same ts t)
  where
    go : (c : Bool) → is_at a x ≡ c → pick c true (has a ts) ≡ true → (has a ts ≡ true → look a (set ts (place_in ts a) y) ≡ y)
        → look a (pick c (y ∷ ts) (x ∷ set ts (place_in ts a) y)) ≡ y
    go true e t ih = look_cons a y ts ∙ (rw (y_at a a y same))
    go false e t ih = look_cons a x _ ∙ (rw e (ih t))

-- ---- what the target of an address tells, followed through each change of the list
module _ {B : Type 0} (f : Target → B) (a : ℕ) where
  -- the target of the address, where one is held, tells x
  abbrev pub Tells : List Target → B → Type 0
  Tells ts x = has a ts ≡ true → f (look a ts) ≡ x

  pub tells_none : (x : B) → Tells [] x
  tells_none x k = absurd (false≢true (sym (has_nil a) ∙ k))

  -- one more, of an address that was not held
  pub tells_new : (ts : List Target) (x y : B) (t : Target) → has t.address ts ≡ false → (t.address ≡ a → f t ≡ y) → ((t.address ≡ a → ⊥) → x ≡ y)
      → Tells ts x → Tells (ts ++ (t ∷ [])) y
  tells_new ts x y t n at off h k = ap f (look_snoc a ts t) ∙ go (eqb t.address a) refl (has a ts) refl
    where
      go : (d : Bool) → eqb t.address a ≡ d → (e : Bool) → has a ts ≡ e → f (pick e (look a ts) (pick (eqb t.address a) t (fresh 0 0 0))) ≡ y
      go true q true p = absurd (true≢false (sym p ∙ ap (λ (m : ℕ). has m ts) (sym (eqb-true t.address a q)) ∙ n))
      go true q false p = rw q (at (eqb-true t.address a q))
      go false q true p = h p ∙ off (eqb-false t.address a q)
      go false q false p = absurd (false≢true (sym (has_snoc a ts t ∙ (rw (p, q))) ∙ k))

  -- those of an address are gone
  pub tells_removed : (ts : List Target) (x y : B) (b : ℕ) → ((b ≡ a → ⊥) → x ≡ y) → Tells ts x → Tells (filter (λ (t : Target). not (is_at b t)) ts) y
  tells_removed ts x y b off h k = go (eqb b a) refl
    where
      go : (d : Bool) → eqb b a ≡ d → f (look a (filter (λ (t : Target). not (is_at b t)) ts)) ≡ y
      go true q =
          absurd (false≢true (sym (ap (λ (m : ℕ). has a (filter (λ (t : Target). not (is_at m t)) ts)) (eqb-true b a q) ∙ has_gone a ts) ∙ k))
      go false q =
          let n : a ≡ b → ⊥ = λ e. eqb-false b a q (sym e) in
          ap f (look_other a b ts n) ∙ h (sym (has_other a b ts n) ∙ k) ∙ off (eqb-false b a q)

  -- another stands in the place of one of its address
  pub tells_put : (ts : List Target) (x y : B) (b : ℕ) (t : Target) → t.address ≡ b → has b ts ≡ true → (b ≡ a → f t ≡ y) → ((b ≡ a → ⊥) → x ≡ y)
      → Tells ts x → Tells (set ts (place_in ts b) t) y
  tells_put ts x y b t same m at off h k = go (eqb b a) refl
    where
      go : (d : Bool) → eqb b a ≡ d → f (look a (set ts (place_in ts b) t)) ≡ y
      go true q =
          let e = eqb-true b a q in
          ap (λ (n : ℕ). f (look n (set ts (place_in ts b) t))) (sym e) ∙ ap f (look_put b t same ts m) ∙ at e
      go false q =
          let n : a ≡ b → ⊥ = λ e. eqb-false b a q (sym e) in
          ap f (look_put_other a b t same ts n) ∙ h (sym (has_put a b t same ts) ∙ k) ∙ off (eqb-false b a q)

  -- each is changed, and keeps its address
  pub tells_changed : (g : Target → Target) → ((t : Target) → (g t).address ≡ t.address) → (ts : List Target) (x y : B) → ((t : Target) → f t ≡ x → f (g t) ≡ y)
      → Tells ts x → Tells (map g ts) y
  tells_changed g same ts x y to h k =
      let m = sym (has_map a g same ts) ∙ k in
      ap f (look_map a g same ts m) ∙ to (look a ts) (h m)
