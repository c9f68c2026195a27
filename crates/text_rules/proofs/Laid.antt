-- Laws of text laid into a buffer: texts put one after the other, and what stands in the buffer then.
use Prim.Native.Nat.{ℕ, suc, ◌+◌, ◌≤◌, ◌<◌, min}
use native.Mathlib.Nat.{add-zero}
use native.Mathlib.Numerals.{add-one}
use native.Mathlib.Omega.{arith, min_cases}
use mathlib.Core.Path.{◌≡◌, refl, sym, ap, ◌∙◌}
use mathlib.Core.List.{List, [], ◌∷◌, ◌++◌}
use mathlib.Core.Bool.{Bool, true, false}
use lib.Seq.{sets, sets-eq, set_out, take_at, drop-cons}
use lib.ListN.{length, get_or, set, take, drop, length-set, length-append, length-take, drop_of_length-le}
use Rattle.lists.specs.Lists.{pick}
use Rattle.text_rules.specs.Put.{laid, Put}

pub length_laid : (t : List ℕ) (at : ℕ) (l : List ℕ) → length (laid t at l) ≡ length l
unfolding laid
length_laid [] at l = refl
length_laid (b ∷ t) at l = length_laid t _ _ ∙ length-set l _ b

laid_append : (a b : List ℕ) (at : ℕ) (l : List ℕ) → laid (a ++ b) at l ≡ laid b (at + length a) (laid a at l)
unfolding laid
laid_append [] b at l = rw add-zero
laid_append (x ∷ a) b at l = laid_append a b _ _ ∙ ap (λ (k : ℕ). laid b k (laid (x ∷ a) at l)) (omega arith)

-- beyond the end nothing is laid
pub laid_out : (t : List ℕ) (at : ℕ) (l : List ℕ) → length l ≤ at → laid t at l ≡ l
unfolding laid
laid_out [] at l h = refl
laid_out (b ∷ t) at l h = rw (set_out l at b h) (laid_out t (suc at) l (omega arith))

-- a place beyond the end is as good as the end
laid_clamped : (t : List ℕ) (at : ℕ) (l : List ℕ) → laid t (min (length l) at) l ≡ laid t at l
laid_clamped t at l =
    min_cases (length l) at _
    (λ h e. rw e (laid_out t (length l) l (omega arith) ∙ sym (laid_out t at l h)))
    (λ h e. ap (λ (k : ℕ). laid t k l) e)

-- ---- one call, and one after another

module _ {t : List ℕ} {at r : ℕ} {l m : List ℕ} (p : Put t at l m r) where
  pub put_same : length m ≡ length l
  put_same = ap length p.text ∙ length_laid t _ l

  pub put_inside : r ≤ length m
  put_inside = omega (arith, p.next, put_same)

  -- the place after a text counts the bytes before it, as lending the buffer's front asks
  pub put_count : r ≡ length (take r m)
  put_count = simp length-take (omega (arith, put_inside))

-- a text by another name
pub put_of : {a b : List ℕ} {at r : ℕ} {l m : List ℕ} → a ≡ b → Put a at l m r → Put b at l m r
put_of e p = rw e at p

pub put_none : (at : ℕ) (l : List ℕ) → at ≤ length l → Put [] at l l at
unfolding laid
put_none at l h = record { next = omega arith; text = refl }

-- nothing yet, from a place that may be beyond the end
pub put_from : {at r : ℕ} (l : List ℕ) → r ≡ min at (length l) → Put [] at l l r
unfolding laid
put_from l e = record { next = omega arith; text = refl }

pub put_one : (b at : ℕ) (l : List ℕ) → at < length l → Put (b ∷ []) at l (set l at b) (at + 1)
unfolding laid
put_one b at l h = record { next = omega arith; text = refl }

pub put_out : (t : List ℕ) (at : ℕ) (l : List ℕ) → length l ≤ at → Put t at l l (length l)
put_out t at l h = record { next = omega arith; text = sym (laid_out t at l h) }

pub put_then : {a b : List ℕ} {at r q : ℕ} {l m o : List ℕ} → Put a at l m r → Put b r m o q → Put (a ++ b) at l o q
put_then {a} {b} {at} {r} {q} {l} {m} {o} x y =
    let e : r ≡ min (length m) (at + length a) = omega (arith, x.next, put_same x) in
    record {
      next = simp length-append (omega (arith, x.next, y.next, put_same x));
      text = y.text ∙ ap (λ (k : ℕ). laid b k m) e ∙ laid_clamped b (at + length a) m ∙ ap (laid b (at + length a)) x.text ∙ sym (laid_append a b at l);
    }

-- ---- `search laying` puts a text together from what the calls put

-- the text of a value by another name, and of a value whose case is known
pub put_as : {A : Type 0} (t : A → List ℕ) {x y : A} {at r : ℕ} {l m : List ℕ} → x ≡ y → Put (t x) at l m r → Put (t y) at l m r
put_as t e p = rw e at p

pub put_case : {A : Type 0} (t : A → List ℕ) {x y : A} {at r : ℕ} {l m : List ℕ} → x ≡ y → Put (t y) at l m r → Put (t x) at l m r
put_case t e p = rw e p

-- one of two texts, by a test that is known
module _ (x y : List ℕ) {b : Bool} {at r : ℕ} {l m : List ℕ} where
  pub put_taken : b ≡ true → Put x at l m r → Put (pick b x y) at l m r
  put_taken e p = rw e p

  pub put_left : b ≡ false → Put y at l m r → Put (pick b x y) at l m r
  put_left e p = rw e p

pub ruleset laying = (put_then, put_taken, put_left)

-- ---- parts put one after the other: `rest` is what is still to be put

-- whoever puts the rest at the place at into m has put all of t at the place start into l
pub record Still (t : List ℕ) (start : ℕ) (l : List ℕ) (rest : List ℕ) (at : ℕ) (m : List ℕ) : Type 0 where
  pub whole : (o : List ℕ) (q : ℕ) → Put rest at m o q → Put t start l o q
  pub same : length m ≡ length l

pub still_first : (t : List ℕ) (start : ℕ) (l : List ℕ) → Still t start l t start l
still_first t start l = record { whole = λ o q p. p; same = refl }

pub still_from : (t : List ℕ) {start at : ℕ} (l : List ℕ) → at ≡ min start (length l) → Still t start l t at l
still_from t l e = record { whole = λ o q p. put_then (put_from l e) p; same = refl }

module _ {t : List ℕ} {start : ℕ} {l rest : List ℕ} {at : ℕ} {m : List ℕ} (s : Still t start l rest at m) where
  pub still_next : {a b o : List ℕ} {r : ℕ} → rest ≡ a ++ b → Put a at m o r → Still t start l b r o
  still_next e p = record { whole = λ o q y. s.whole o q (rw e (put_then p y)); same = put_same p ∙ s.same }

  -- nothing is left
  pub still_end : rest ≡ [] → at ≤ length m → Put t start l m at
  still_end e h = s.whole _ _ (rw e (put_none at m h))

  pub still_last : {a o : List ℕ} {q : ℕ} → rest ≡ a → Put a at m o q → Put t start l o q
  still_last e p = s.whole _ _ (rw e p)

-- the texts of the elements of a list, one after the other, in a loop that has come to place i
module _ {A : Type 0} (part : A → List ℕ) (all : List A → List ℕ) where
  module _ {t : List ℕ} {start : ℕ} {l : List ℕ} (xs : List A) (i : ℕ) {at : ℕ} {m : List ℕ} (s : Still t start l (all (drop i xs)) at m) where
    pub each_more : ((x : A) (xs : List A) → all (x ∷ xs) ≡ part x ++ all xs) → (d : A) {r : ℕ} {o : List ℕ} → i < length xs
        → Put (part (get_or xs i d)) at m o r → Still t start l (all (drop (i + 1) xs)) r o
    each_more step d h p = still_next s (rw (drop-cons xs i d h, add-one i) (step _ _)) p

    pub each_all : all [] ≡ [] → length xs ≤ i → at ≤ length m → Put t start l m at
    each_all e h k = still_end s (rw (drop_of_length-le xs {i = i} h) e) k

-- ---- what stands in the buffer then

as_sets : (t : List ℕ) (at : ℕ) (l : List ℕ) → laid t at l ≡ sets l at t
unfolding laid
as_sets [] at l = refl
as_sets (b ∷ t) at l = as_sets t (suc at) (set l at b)

-- with room enough: the text at its place, and the rest as it was
pub laid_split : (t : List ℕ) (at : ℕ) (l : List ℕ) → at + length t ≤ length l → laid t at l ≡ take at l ++ t ++ drop (at + length t) l
laid_split t at l h = as_sets t at l ∙ sets-eq t l at h

-- text laid at the start is what the buffer begins with
pub take_laid : (t l : List ℕ) → length t ≤ length l → take (length t) (laid t 0 l) ≡ t
take_laid t l h = ap (take (length t)) (laid_split t 0 l (omega arith)) ∙ take_at t (drop (0 + length t) l) (length t) refl

-- with room enough the text that was put from the start is read off the buffer
pub read_off : {t l m : List ℕ} {r : ℕ} → Put t 0 l m r → length t ≤ length l → take r m ≡ t
read_off {t} {l} {m} {r} p h =
    let e : r ≡ length t = omega (arith, p.next) in
    rw (e, p.text) (take_laid t l h)
