-- The place of a request is the smallest start that fits, and there is one answer.
use Rattle.std.specs.Prelude.{Option, Some, None}
use Prim.Native.Nat.{ℕ, zero, suc, ◌+◌, ◌≤◌, ◌<◌, zero-le}
use native.Mathlib.Omega.{arith}
use native.Mathlib.Nat.{eq-or-lt_of_le, le_refl}
use mathlib.Core.Path.{◌≡◌, refl, sym, subst, ap, ◌∙◌}
use mathlib.Core.Logic.{◌⊎◌, inl, inr, ⊎_elim}
use mathlib.Core.Bool.{Bool, true, false, true≢false}
use mathlib.Core.List.{List}
use lib.Dec.{leb}
use borrow.Author.Tests.{leb-true, leb-false, lt-leb}
use Rattle.lists.specs.Lists.{pick}
use Rattle.lists.proofs.Tests.{and_left, and_right, and_no_left}
use Rattle.planner_rules.specs.declared.request.Ask.{Ask}
use Rattle.planner_rules.specs.declared.entry.Entry.{Entry}
use Rattle.planner_rules.specs.Exchange.{entry_at, spans}
use Rattle.planner_rules.specs.Fits.{clear_of, fits, first, place}

pub le_or_lt : (a b : ℕ) → (a ≤ b) ⊎ (b < a)
le_or_lt a b = go (leb a b) refl
  where
    go : (t : Bool) → leb a b ≡ t → (a ≤ b) ⊎ (b < a)
    go true e = inl (leb-true a b e)
    go false e = inr (leb-false a b e)

-- the answer of a search over the n numbers from t on: the smallest that passes, or none does
abbrev pub Smallest : (ℕ → Bool) → ℕ → ℕ → Option ℕ → Type 0
Smallest f n t (Some s) = (t ≤ s) × (s < t + n) × (f s ≡ true) × ((j : ℕ) → t ≤ j → j < s → f j ≡ false)
Smallest f n t None = (j : ℕ) → t ≤ j → j < t + n → f j ≡ false

from_here : (f : ℕ → Bool) (t : ℕ) → f t ≡ false → (m : ℕ) → ((j : ℕ) → suc t ≤ j → j < m → f j ≡ false) → (j : ℕ) → t ≤ j → j < m → f j ≡ false
from_here f t e m all j h k = ⊎_elim (λ q. subst (λ (i : ℕ). f i ≡ false) q e) (λ l. all j l k) (eq-or-lt_of_le h)

one_more : (f : ℕ → Bool) (n t : ℕ) → f t ≡ false → (s : Option ℕ) → Smallest f n (suc t) s → Smallest f (suc n) t s
one_more f n t e (Some s) h = (omega arith, omega arith, h.2, from_here f t e s h.3)
one_more f n t e None h = from_here f t e (t + suc n) (λ j l k. h j l (omega arith))

first_is : (f : ℕ → Bool) (n t : ℕ) → Smallest f n t (first f n t)
unfolding first
first_is f zero t = λ j h k. absurd (omega arith)
first_is f (suc n) t = go (f t) refl (first_is f n (suc t))
  where
    go : (b : Bool) → f t ≡ b → Smallest f n (suc t) (first f n (suc t)) → Smallest f (suc n) t (pick (f t) (Some t) (first f n (suc t)))
    go true e ih = rw e (le_refl t, omega arith, e, λ j h k. absurd (omega arith))
    go false e ih = rw e (one_more f n t e (first f n (suc t)) ih)

-- there is one answer
smallest_one : (f : ℕ → Bool) (n t : ℕ) (x y : Option ℕ) → Smallest f n t x → Smallest f n t y → x ≡ y
smallest_one f n t (Some a) (Some b) p q =
    ⊎_elim
    (λ l. ⊎_elim (λ e. ap Some e) (λ k. absurd (true≢false (sym p.2 ∙ q.3 a p.0 k))) (eq-or-lt_of_le l))
    (λ k. absurd (true≢false (sym q.2 ∙ p.3 b q.0 k)))
    (le_or_lt a b)
smallest_one f n t (Some a) None p q = absurd (true≢false (sym p.2 ∙ q a p.0 p.1))
smallest_one f n t None (Some b) p q = absurd (true≢false (sym q.2 ∙ p b q.0 q.1))
smallest_one f n t None None p q = refl

-- what ends after L does not fit
pub late : (L : ℕ) (es : List Entry) (d : Entry) → L < (spans d).hi → fits L es d ≡ false
unfolding fits
late L es d h = and_no_left _ _ (lt-leb (spans d).hi L h)

module _ (L : ℕ) (es : List Entry) (a : Ask) where
  abbrev Answer : Option ℕ → Type 0
  Answer s = Smallest (λ t. fits L es (entry_at a t)) (suc L) 0 s

  answer : Answer (place L es a)
  unfolding place
  answer = first_is _ (suc L) 0

  -- a start that fits, and none before it does, is the place; and so is none where none fits
  pub place_at : (t : ℕ) → fits L es (entry_at a t) ≡ true → ((j : ℕ) → j < t → fits L es (entry_at a j) ≡ false) → Some t ≡ place L es a
  unfolding fits
  place_at t f none =
      let h : (spans (entry_at a t)).hi ≤ L = leb-true _ _ (and_left _ (clear_of (entry_at a t) es) f) in
      smallest_one _ (suc L) 0 (Some t) (place L es a) (zero-le, omega arith, f, λ j _ l. none j l) answer

  pub place_none : ((t : ℕ) → fits L es (entry_at a t) ≡ false) → None ≡ place L es a
  place_none none = smallest_one _ (suc L) 0 None (place L es a) (λ j _ _. none j) answer

  -- and what the place says
  pub at_fits : (t : ℕ) → place L es a ≡ Some t → fits L es (entry_at a t) ≡ true
  at_fits t e = (subst Answer e answer).2

  pub at_first : (t : ℕ) → place L es a ≡ Some t → (j : ℕ) → j < t → fits L es (entry_at a j) ≡ false
  at_first t e j l = (subst Answer e answer).3 j zero-le l

  pub nowhere_fits : place L es a ≡ None → (t : ℕ) → fits L es (entry_at a t) ≡ false
  nowhere_fits e t =
      ⊎_elim
      (λ l. (subst Answer e answer) t zero-le (omega arith))
      (λ l. late L es (entry_at a t) (omega arith))
      (le_or_lt t L)

-- what fits ends by L and is clear of all placed
pub fits_ends : (L : ℕ) (es : List Entry) (d : Entry) → fits L es d ≡ true → (spans d).hi ≤ L
unfolding fits
fits_ends L es d f = leb-true _ _ (and_left _ (clear_of d es) f)

pub fits_clear : (L : ℕ) (es : List Entry) (d : Entry) → fits L es d ≡ true → clear_of d es ≡ true
unfolding fits
fits_clear L es d f = and_right (leb (spans d).hi L) _ f
