-- What a table of checks comes to.
use Prim.Native.Nat.{ℕ, ◌≤◌, ◌<◌}
use native.Mathlib.Omega.{arith}
use mathlib.Core.Path.{◌≡◌, refl, sym, ap, ◌∙◌}
use mathlib.Core.Logic.{◌⊎◌, inl, inr, ⊎_elim}
use mathlib.Core.List.{List, [], ◌∷◌, ◌++◌, map}
use mathlib.Core.Bool.{Bool, true, false, not, ◌&&◌, false≢true}
use borrow.Author.Tests.{lt-ltb, le-ltb, le-leb, lt-leb, eq-eqb, ne_eqb, eqb-false, not-true, not-false}
use lib.Dec.{eqb}
use Rattle.lists.specs.Lists.{pick, All, Among}
use Rattle.lists.specs.Checks.{Check, checked, given, line_of, case_of, from, unless, Before, None, numbered}
use Rattle.lists.proofs.Tests.{and_true, and_no_left, and_no_right, and_yes}

-- ---- any view of what a table comes to is the table with that view
pub view : {A B : Type 0} (g : A → B) (cs : List Check) (refuse : Check → A) (done : A)
    → g (checked cs refuse done) ≡ checked cs (λ c. g (refuse c)) (g done)
unfolding checked
view g [] refuse done = refl
view g (c ∷ cs) refuse done = go c.is_case (view g cs refuse done)
  where
    go : (b : Bool) → g (checked cs refuse done) ≡ checked cs (λ x. g (refuse x)) (g done)
        → g (pick b (refuse c) (checked cs refuse done)) ≡ pick b (g (refuse c)) (checked cs (λ x. g (refuse x)) (g done))
    go true e = refl
    go false e = e

-- ---- a table after a table
pub join : {A : Type 0} (cs ds : List Check) (refuse : Check → A) (done : A)
    → checked (cs ++ ds) refuse done ≡ checked cs refuse (checked ds refuse done)
unfolding checked
join [] ds refuse done = refl
join (c ∷ cs) ds refuse done = ap (pick c.is_case (refuse c)) (join cs ds refuse done)

-- ---- a call is refused, by a number that is not 0, or done, and then no line is the case
-- no line is the case: by its number, and one after the other
pub record Passed (cs : List Check) : Type 0 where
  pub off : (n : ℕ) → case_of n cs ≡ false
  pub none : None cs

pub data CameTo {A : Type 0} (cs : List Check) (refuse : Check → A) (done : A) : A → Type 0 where
  was_refused : {r : A} (c : Check) → (c.number ≡ 0 → ⊥) → c.is_case ≡ true → given cs ≡ c.number → r ≡ refuse c → CameTo cs refuse done r
  was_done : {r : A} → Passed cs → given cs ≡ 0 → r ≡ done → CameTo cs refuse done r

line_off : (n : ℕ) (b : Bool) (c : Check) (cs : List Check) → c.is_case ≡ false → case_of n cs ≡ false → (pick b c (line_of n cs)).is_case ≡ false
line_off n true c cs h k = h
line_off n false c cs h k = k

passed_on : (c : Check) (cs : List Check) → c.is_case ≡ false → Passed cs → Passed (c ∷ cs)
passed_on c cs e p = record { off = λ n. line_off n (eqb c.number n) c cs e (p.off n); none = (e, p.none) }

nothing_left : Passed []
nothing_left = record { off = λ n. refl; none = tt }

module _ {A : Type 0} (refuse : Check → A) (done : A) where
  pub came_to : (cs : List Check) → numbered cs ≡ true → CameTo cs refuse done (checked cs refuse done)
  unfolding checked
  came_to [] z = was_done nothing_left refl refl
  came_to (c ∷ cs) z =
      let y = and_true (not (eqb c.number 0)) (numbered cs) z in
      go y.0 c.is_case refl (came_to cs y.1)
    where
      go : not (eqb c.number 0) ≡ true → (b : Bool) → c.is_case ≡ b → CameTo cs refuse done (checked cs refuse done)
          → CameTo (c ∷ cs) refuse done (pick b (refuse c) (checked cs refuse done))
      go y true e o = was_refused c (eqb-false c.number 0 (not-true (eqb c.number 0) y)) e (rw e) refl
      go y false e (was_refused d m k g r) = was_refused d m k (rw e g) r
      go y false e (was_done k g r) = was_done (passed_on c cs e k) (rw e g) r

-- where none of a table is the case, none of its parts is
none_parts : (cs ds : List Check) → None (cs ++ ds) → None cs × None ds
none_parts [] ds h = (tt, h)
none_parts (c ∷ cs) ds h = let p = none_parts cs ds h.1 in ((h.0, p.0), p.1)

none_passed : (cs : List Check) → None cs → Passed cs
none_passed [] h = nothing_left
none_passed (c ∷ cs) h = passed_on c cs h.0 (none_passed cs h.1)

pub passed_first : (cs ds : List Check) → Passed (cs ++ ds) → Passed cs
passed_first cs ds p = none_passed cs (none_parts cs ds p.none).0

pub passed_last : (cs ds : List Check) → Passed (cs ++ ds) → Passed ds
passed_last cs ds p = none_passed ds (none_parts cs ds p.none).1

-- where none of two tables is the case, none of both together is
none_both : (cs ds : List Check) → None cs → None ds → None (cs ++ ds)
none_both [] ds h k = k
none_both (c ∷ cs) ds h k = (h.0, none_both cs ds h.1 k)

pub passed_both : (cs ds : List Check) → Passed cs → Passed ds → Passed (cs ++ ds)
passed_both cs ds p q = none_passed (cs ++ ds) (none_both cs ds p.none q.none)

-- ---- by the number given, where another function has worked it out
-- 0: no line is the case
zero_in : (cs : List Check) (r : ℕ) → CameTo cs (λ c. c.number) 0 r → r ≡ 0 → Passed cs
zero_in cs r (was_refused c m k g e) z = absurd (m (sym e ∙ z))
zero_in cs r (was_done k g e) z = k

pub zero_passed : (cs : List Check) → numbered cs ≡ true → given cs ≡ 0 → Passed cs
zero_passed cs h z = zero_in cs (given cs) (came_to (λ c. c.number) 0 cs h) z

module _ {A : Type 0} (cs : List Check) (done : A) (h : numbered cs ≡ true) where
  -- another number: refused by it
  refused_in : (refuse : ℕ → A) (r : A) → CameTo cs (λ c. refuse c.number) done r → (given cs ≡ 0 → ⊥) → refuse (given cs) ≡ r
  refused_in refuse r (was_refused c m k g e) n = ap refuse g ∙ sym e
  refused_in refuse r (was_done k g e) n = absurd (n g)

  pub number_refused : (refuse : ℕ → A) → (given cs ≡ 0 → ⊥) → refuse (given cs) ≡ checked cs (λ c. refuse c.number) done
  number_refused refuse n = refused_in refuse (checked cs (λ c. refuse c.number) done) (came_to (λ c. refuse c.number) done cs h) n

  done_in : (refuse : Check → A) (r : A) → CameTo cs refuse done r → given cs ≡ 0 → done ≡ r
  done_in refuse r (was_refused c m k g e) z = absurd (m (sym g ∙ z))
  done_in refuse r (was_done k g e) z = sym e

  pub zero_done : (refuse : Check → A) → given cs ≡ 0 → done ≡ checked cs refuse done
  zero_done refuse z = done_in refuse (checked cs refuse done) (came_to refuse done cs h) z

-- ---- what stands after a table need only be right where each of its lines is not the case
pub under : {A : Type 0} (cs : List Check) (refuse : Check → A) (x y : A) → (Passed cs → x ≡ y) → checked cs refuse x ≡ checked cs refuse y
unfolding checked
under [] refuse x y h = h nothing_left
under (c ∷ cs) refuse x y h = go c.is_case refl (λ k. under cs refuse x y k)
  where
    go : (b : Bool) → c.is_case ≡ b → ((Passed cs → x ≡ y) → checked cs refuse x ≡ checked cs refuse y)
        → pick b (refuse c) (checked cs refuse x) ≡ pick b (refuse c) (checked cs refuse y)
    go true e f = refl
    go false e f = f (λ k. h (passed_on c cs e k))

-- ---- a number that is given is that of a line which is the case, and no line before it is
-- no line has the number, and one line alone has it
abbrev pub absent : ℕ → List Check → Bool
absent n [] = true
absent n (c ∷ cs) = not (eqb c.number n) && absent n cs

abbrev pub once : ℕ → List Check → Bool
once n [] = false
once n (c ∷ cs) = pick (eqb c.number n) (absent n cs) (once n cs)

module _ (n : ℕ) (z : n ≡ 0 → ⊥) where
  never : (cs : List Check) → absent n cs ≡ true → given cs ≡ n → ⊥
  unfolding checked
  never [] a g = z (sym g)
  never (c ∷ cs) a g =
      let y = and_true (not (eqb c.number n)) (absent n cs) a in
      go c.is_case (eqb-false c.number n (not-true (eqb c.number n) y.0)) g (never cs y.1)
    where
      go : (b : Bool) → (c.number ≡ n → ⊥) → pick b c.number (given cs) ≡ n → (given cs ≡ n → ⊥) → ⊥
      go true m g f = m g
      go false m g f = f g

  -- a number that the lines of a part do not have is given by the other part
  pub given_last : (cs ds : List Check) → absent n cs ≡ true → given (cs ++ ds) ≡ n → given ds ≡ n
  unfolding checked
  given_last [] ds a g = g
  given_last (c ∷ cs) ds a g =
      let y = and_true (not (eqb c.number n)) (absent n cs) a in
      go c.is_case (eqb-false c.number n (not-true (eqb c.number n) y.0)) g (given_last cs ds y.1)
    where
      go : (b : Bool) → (c.number ≡ n → ⊥) → pick b c.number (given (cs ++ ds)) ≡ n → (given (cs ++ ds) ≡ n → given ds ≡ n) → given ds ≡ n
      go true m g f = absurd (m g)
      go false m g f = f g

  pub given_first : (cs ds : List Check) → absent n ds ≡ true → given (cs ++ ds) ≡ n → given cs ≡ n
  unfolding checked
  given_first [] ds a g = absurd (never ds a g)
  given_first (c ∷ cs) ds a g = go c.is_case g (given_first cs ds a)
    where
      go : (b : Bool) → pick b c.number (given (cs ++ ds)) ≡ n → (given (cs ++ ds) ≡ n → given cs ≡ n) → pick b c.number (given cs) ≡ n
      go true g f = g
      go false g f = f g

  pub gave : (cs : List Check) → once n cs ≡ true → given cs ≡ n → Before n cs × (case_of n cs ≡ true)
  unfolding checked
  gave [] o g = absurd (false≢true o)
  gave (c ∷ cs) o g = go (eqb c.number n) refl c.is_case refl o g (λ p q. gave cs p q)
    where
      go : (t : Bool) → eqb c.number n ≡ t → (b : Bool) → c.is_case ≡ b → pick t (absent n cs) (once n cs) ≡ true → pick b c.number (given cs) ≡ n
          → (once n cs ≡ true → given cs ≡ n → Before n cs × (case_of n cs ≡ true))
          → unless t ((c.is_case ≡ false) × Before n cs) × ((pick t c (line_of n cs)).is_case ≡ true)
      go true h true e o g f = (tt, e)
      go true h false e o g f = absurd (never cs o g)
      go false h true e o g f = absurd (eqb-false c.number n h g)
      go false h false e o g f = let y = f o g in ((e, y.0), y.1)

-- either no line of a part is the case, or the number given is that of one of its lines
pub given_part : (cs ds : List Check) → (given cs ≡ 0) ⊎ Among (given (cs ++ ds)) (map (λ c. c.number) cs)
unfolding checked
given_part [] ds = inl refl
given_part (c ∷ cs) ds = go c.is_case (given_part cs ds)
  where
    go : (b : Bool) → (given cs ≡ 0) ⊎ Among (given (cs ++ ds)) (map (λ c. c.number) cs)
        → (pick b c.number (given cs) ≡ 0) ⊎ Among (pick b c.number (given (cs ++ ds))) (c.number ∷ map (λ c. c.number) cs)
    go true e = inr (inl refl)
    go false e = ⊎_elim (λ z. inl z) (λ a. inr (inr a)) e

-- ---- what holds of the refusal by each line, and of what is done where none is the case, holds of what the table comes to
pub whichever : {A : Type 0} (P : A → Type 0) (cs : List Check) (refuse : Check → A) (done : A)
    → All (λ c. P (refuse c)) cs → (Passed cs → P done) → P (checked cs refuse done)
unfolding All checked
whichever P [] refuse done r d = d nothing_left
whichever P (c ∷ cs) refuse done r d = go c.is_case refl (λ k. whichever P cs refuse done r.1 k)
  where
    go : (b : Bool) → c.is_case ≡ b → ((Passed cs → P done) → P (checked cs refuse done)) → P (pick b (refuse c) (checked cs refuse done))
    go true e f = r.0
    go false e f = f (λ k. d (passed_on c cs e k))

-- ---- the lines that are left at a place of the code: those before them are not the case
pub data Left (cs : List Check) : List Check → Type 0 where
  all : Left cs cs
  past : {c : Check} {ds : List Check} → Left cs (c ∷ ds) → c.is_case ≡ false → Left cs ds

module _ {cs : List Check} where
  on_to : (n : ℕ) (ds : List Check) → Left cs ds → Before n ds → Left cs (from n ds)
  on_to n [] l b = l
  on_to n (c ∷ ds) l b = go (eqb c.number n) b (λ h k. on_to n ds (past l h) k)
    where
      go : (e : Bool) → unless e ((c.is_case ≡ false) × Before n ds) → (c.is_case ≡ false → Before n ds → Left cs (from n ds))
          → Left cs (pick e (c ∷ ds) (from n ds))
      go true b f = l
      go false b f = f b.0 b.1

  to_end : (ds : List Check) → Left cs ds → None ds → Left cs []
  to_end [] l b = l
  to_end (c ∷ ds) l b = to_end ds (past l b.0) b.1

  -- on to the line of a number, and on to the end
  pub upto : (n : ℕ) {ds : List Check} → Left cs ds → Before n ds → Left cs (from n ds)
  upto n {ds} l b = on_to n ds l b

  pub through : {ds : List Check} → Left cs ds → None ds → Left cs []
  through {ds} l b = to_end ds l b

pick_yes : {A : Type 0} (b : Bool) (x y z : A) → b ≡ true → pick b x y ≡ z → x ≡ z
pick_yes true x y z e h = h
pick_yes false x y z e h = absurd (false≢true e)

pick_no : {A : Type 0} (b : Bool) (x y z : A) → b ≡ false → pick b x y ≡ z → y ≡ z
pick_no true x y z e h = absurd (false≢true (sym e))
pick_no false x y z e h = h

module _ {A : Type 0} {cs : List Check} (refuse : Check → A) (done : A) where
  -- what is left decides
  pub rest : {ds : List Check} → Left cs ds → checked ds refuse done ≡ checked cs refuse done
  unfolding checked
  rest all = refl
  rest (past {c} {ds} l e) = pick_no c.is_case (refuse c) (checked ds refuse done) (checked cs refuse done) e (rest l)

  next_line : {c : Check} {ds : List Check} → Left cs (c ∷ ds) → c.is_case ≡ true → refuse c ≡ checked cs refuse done
  unfolding checked
  next_line {c} {ds} l e = pick_yes c.is_case (refuse c) (checked ds refuse done) (checked cs refuse done) e (rest l)

  stop_in : (n : ℕ) (ds : List Check) → Left cs ds → Before n ds → case_of n ds ≡ true → refuse (line_of n ds) ≡ checked cs refuse done
  stop_in n [] l b e = absurd (false≢true e)
  stop_in n (c ∷ ds) l b e = go (eqb c.number n) b e (λ h k q. stop_in n ds (past l h) k q)
    where
      go : (t : Bool) → unless t ((c.is_case ≡ false) × Before n ds) → (pick t c (line_of n ds)).is_case ≡ true
          → (c.is_case ≡ false → Before n ds → case_of n ds ≡ true → refuse (line_of n ds) ≡ checked cs refuse done)
          → refuse (pick t c (line_of n ds)) ≡ checked cs refuse done
      go true b e f = next_line l e
      go false b e f = f b.0 b.1 e

  -- the line of a number is the case, and none before it
  pub stop : (n : ℕ) {ds : List Check} → Left cs ds → Before n ds → case_of n ds ≡ true → refuse (line_of n ds) ≡ checked cs refuse done
  stop n {ds} l b e = stop_in n ds l b e

  -- no line that is left is the case
  pub end : {ds : List Check} → Left cs ds → None ds → done ≡ checked cs refuse done
  unfolding checked
  end l b = rest (through l b)

-- where no line is left none is the case
none_left : (cs : List Check) → checked cs (λ c. true) false ≡ false → Passed cs
unfolding checked
none_left [] h = nothing_left
none_left (c ∷ cs) h = at c.is_case refl h (λ k. none_left cs k)
  where
    at : (b : Bool) → c.is_case ≡ b → pick b true (checked cs (λ c. true) false) ≡ false → (checked cs (λ c. true) false ≡ false → Passed cs)
        → Passed (c ∷ cs)
    at true e h f = absurd (false≢true (sym h))
    at false e h f = passed_on c cs e (f h)

pub clear : {cs : List Check} → Left cs [] → Passed cs
unfolding checked
clear {cs} l = none_left cs (sym (rest (λ c. true) false l))

-- ---- a line's condition, from what a call gives and the branch on it
pub told : {b x : Bool} (v : Bool) → b ≡ x → b ≡ v → x ≡ v
told v e h = sym e ∙ h

pub told_not : {b x : Bool} (v : Bool) → b ≡ x → not b ≡ v → not x ≡ v
told_not v e h = ap not (sym e) ∙ h

pub not_on : (x : Bool) → x ≡ false → not x ≡ true
not_on x e = rw e

pub not_off : (x : Bool) → x ≡ true → not x ≡ false
not_off x e = rw e

pub told_most : {r n k : ℕ} → r ≡ n → r ≤ k → n ≤ k
told_most e h = omega arith

pub told_less : {r n k : ℕ} → r ≡ n → k < r → k < n
told_less e h = omega arith

-- ---- a test of several, from what is known of each
pub is_off : (x : Bool) → x ≡ false → false ≡ x
is_off x e = sym e

pub told_off : {b x : Bool} → b ≡ x → not b ≡ true → x ≡ false
told_off {b} e h = sym e ∙ not-true b h

pub told_on : {b x : Bool} → b ≡ x → not b ≡ false → x ≡ true
told_on {b} e h = sym e ∙ not-false b h

pub the_last : (a b r : Bool) → a ≡ true → r ≡ b → r ≡ a && b
the_last a b r e h = rw e h

-- `search tests` finds a line's condition, true or false, in what is known at a place of the code
pub ruleset tests = (told, told_not, not_on, not_off, told_most, told_less, lt-ltb, le-ltb, le-leb, lt-leb, eq-eqb, ne_eqb)

-- `search joined` finds what a function answers that asks tests one after the other
pub ruleset joined = (is_off, told_off, told_on, the_last, and_no_left, and_no_right, and_yes, lt-ltb, le-ltb, le-leb, lt-leb, eq-eqb, ne_eqb)
