-- Exchanges that are pairwise clear: no tick lies in two of their windows, and no two with one aircraft are under way at once.
use Prim.Native.Nat.{ℕ, ◌≤◌, ◌<◌, max}
use native.Mathlib.Omega.{arith}
use mathlib.Core.Path.{◌≡◌, refl, sym, ◌∙◌}
use mathlib.Core.Logic.{◌⊎◌, inl, inr, ⊎_elim}
use mathlib.Core.Bool.{Bool, true, false, not, ◌&&◌, ◌||◌, true≢false, false≢true}
use mathlib.Core.List.{List, [], ◌∷◌, ◌++◌}
use lib.Dec.{leb, eqb}
use borrow.Author.Tests.{leb-true, leb-false, ltb-true, le-leb, lt-ltb, le-ltb, lt-leb, eqb-true, eq-eqb}
use Rattle.lists.specs.Lists.{count_of}
use Rattle.lists.proofs.Count.{count_nil, count_yes, count_no}
use Rattle.lists.proofs.Tests.{and_left, and_right, and_yes, and_no_left, and_no_right}
use Rattle.planner_rules.specs.declared.entry.Entry.{Entry}
use Rattle.planner_rules.specs.Exchange.{Span, transmits, listens, spans, same_aircraft, apart, clear}
use Rattle.planner_rules.specs.Fits.{clear_of}
use Rattle.planner_rules.specs.Demand3.{holds, windows, under_way}
use Rattle.planner_rules.proofs.Clear.{sent_small, clear_swap, clear_of_snoc}

-- each is clear of those after it
unfoldable pub Clear : List Entry → Type 0
Clear [] = Unit {0}
Clear (e ∷ es) = (clear_of e es ≡ true) × Clear es

pub clear_nil : Clear []
unfolding Clear
clear_nil = tt

pub clear_snoc : (es : List Entry) (d : Entry) → clear_of d es ≡ true → Clear es → Clear (es ++ (d ∷ []))
unfolding Clear clear_of
clear_snoc [] d h c = (refl, tt)
clear_snoc (e ∷ es) d h c = (
  clear_of_snoc e es d ∙ and_yes (clear_of e es) (clear e d) c.0 (clear_swap e d ∙ and_left (clear d e) (clear_of d es) h),
  clear_snoc es d (and_right (clear d e) (clear_of d es) h) c.1,
)

-- what `apart` says of ticks: none is in both, and where it does not hold of two intervals that are not empty, one is
pub apart_out : (i j : Span) (x : ℕ) → apart i j ≡ true → holds x i ≡ true → holds x j ≡ false
unfolding apart
apart_out i j x h k =
    let lo = leb-true i.lo x (and_left _ _ k) in
    let hi = ltb-true x i.hi (and_right (leb i.lo x) _ k) in
    go lo hi (leb i.hi j.lo) (leb-true i.hi j.lo) h
  where
    go : i.lo ≤ x → x < i.hi → (t : Bool) → (t ≡ true → i.hi ≤ j.lo) → (t || leb j.hi i.lo) ≡ true → holds x j ≡ false
    go lo hi true f q = let l = f refl in and_no_left _ _ (lt-leb j.lo x (omega arith))
    go lo hi false f q = let l = leb-true j.hi i.lo q in and_no_right (leb j.lo x) _ (le-ltb x j.hi (omega arith))

pub shared_tick : (i j : Span) → apart i j ≡ false → i.lo < i.hi → j.lo < j.hi → (x : ℕ) × (holds x i ≡ true) × (holds x j ≡ true)
unfolding apart
shared_tick i j h p q = go (leb i.hi j.lo) (leb-false i.hi j.lo) h
  where
    go : (t : Bool) → (t ≡ false → j.lo < i.hi) → (t || leb j.hi i.lo) ≡ false → (x : ℕ) × (holds x i ≡ true) × (holds x j ≡ true)
    go true f e = absurd (true≢false e)
    go false f e =
        let a = f refl in
        let b = leb-false j.hi i.lo e in (
          max i.lo j.lo,
          and_yes _ _ (le-leb i.lo (max i.lo j.lo) (omega arith)) (lt-ltb (max i.lo j.lo) i.hi (omega arith)),
          and_yes _ _ (le-leb j.lo (max i.lo j.lo) (omega arith)) (lt-ltb (max i.lo j.lo) j.hi (omega arith)),
        )

-- the five tests of two exchanges that are clear
module _ (d e : Entry) (h : clear d e ≡ true) where
  four : (apart (transmits d) (transmits e) && apart (transmits d) (listens e) && apart (listens d) (transmits e) && apart (listens d) (listens e)) ≡ true
  unfolding clear
  four = and_left _ _ h

  apart_tt : apart (transmits d) (transmits e) ≡ true
  apart_tt = and_left _ _ (and_left _ _ (and_left _ _ four))

  apart_tl : apart (transmits d) (listens e) ≡ true
  apart_tl = and_right (apart (transmits d) (transmits e)) _ (and_left _ _ (and_left _ _ four))

  apart_lt : apart (listens d) (transmits e) ≡ true
  apart_lt = and_right (apart (transmits d) (transmits e) && apart (transmits d) (listens e)) _ (and_left _ _ four)

  apart_ll : apart (listens d) (listens e) ≡ true
  apart_ll = and_right (apart (transmits d) (transmits e) && apart (transmits d) (listens e) && apart (listens d) (transmits e)) _ four

  apart_whole : same_aircraft d e ≡ true → apart (spans d) (spans e) ≡ true
  unfolding clear
  apart_whole same =
      go (same_aircraft d e) same
      (and_right
      (apart (transmits d) (transmits e) && apart (transmits d) (listens e) && apart (listens d) (transmits e) && apart (listens d) (listens e)) _ h)
    where
      go : (b : Bool) → b ≡ true → (not b || apart (spans d) (spans e)) ≡ true → apart (spans d) (spans e) ≡ true
      go true s q = q
      go false s q = absurd (false≢true s)

-- a tick of one exchange lies in no window of those that it is clear of
module _ (x : ℕ) where
  free : (d : Entry) (es : List Entry) → clear_of d es ≡ true → (holds x (transmits d) ≡ true) ⊎ (holds x (listens d) ≡ true)
      → count_of (holds x) (windows es) ≡ 0
  unfolding clear_of windows
  free d [] h k = count_nil (holds x)
  free d (e ∷ es) h k =
      let c = and_left (clear d e) (clear_of d es) h in
      let t : holds x (transmits e) ≡ false = ⊎_elim (λ q. apart_out (transmits d) (transmits e) x (apart_tt d e c) q)
      (λ q. apart_out (listens d) (transmits e) x (apart_lt d e c) q) k in
      let l : holds x (listens e) ≡ false = ⊎_elim (λ q. apart_out (transmits d) (listens e) x (apart_tl d e c) q)
      (λ q. apart_out (listens d) (listens e) x (apart_ll d e c) q) k in
      count_no (holds x) _ _ t ∙ count_no (holds x) _ _ l ∙ free d es (and_right (clear d e) (clear_of d es) h) k

  -- its own transmission is over before it listens
  own : (e : Entry) → holds x (transmits e) ≡ true → holds x (listens e) ≡ false
  unfolding apart
  own e h =
      let n = sent_small e.ask.request.uf in
      apart_out (transmits e) (listens e) x (rw (le-leb (transmits e).hi (listens e).lo (omega arith))) h

  pub one_window : (es : List Entry) → Clear es → count_of (holds x) (windows es) ≤ 1
  unfolding Clear windows
  one_window [] c = omega (arith, count_nil (holds x))
  one_window (e ∷ es) c = go (holds x (transmits e)) refl (holds x (listens e)) refl (one_window es c.1)
    where
      go : (s : Bool) → holds x (transmits e) ≡ s → (t : Bool) → holds x (listens e) ≡ t → count_of (holds x) (windows es) ≤ 1
          → count_of (holds x) (transmits e ∷ listens e ∷ windows es) ≤ 1
      go true p t q ih =
          omega (
            arith,
            count_yes (holds x) (transmits e) (listens e ∷ windows es) p,
            count_no (holds x) (listens e) (windows es) (own e p),
            free e es c.0 (inl p),
          )
      go false p true q ih =
          omega (arith, count_no (holds x) (transmits e) (listens e ∷ windows es) p, count_yes (holds x) (listens e) (windows es) q, free e es c.0 (inr q))
      go false p false q ih = omega (arith, count_no (holds x) (transmits e) (listens e ∷ windows es) p, count_no (holds x) (listens e) (windows es) q)

  -- the same of exchanges with one aircraft
  module _ (address : ℕ) where
    alone : (d : Entry) (es : List Entry) → clear_of d es ≡ true → under_way x address d ≡ true → count_of (under_way x address) es ≡ 0
    unfolding clear_of
    alone d [] h k = count_nil (under_way x address)
    alone d (e ∷ es) h k =
        let c = and_left (clear d e) (clear_of d es) h in
        let q = eqb-true d.ask.request.address address (and_left _ _ k) in
        count_no (under_way x address) e es (go c q (eqb e.ask.request.address address) refl (and_right (eqb d.ask.request.address address) _ k))
        ∙ alone d es (and_right (clear d e) (clear_of d es) h) k
      where
        go : clear d e ≡ true → d.ask.request.address ≡ address → (b : Bool) → eqb e.ask.request.address address ≡ b → holds x (spans d) ≡ true
            → (b && holds x (spans e)) ≡ false
        go c q true p i = apart_out (spans d) (spans e) x (apart_whole d e c (eq-eqb _ _ (q ∙ sym (eqb-true _ _ p)))) i
        go c q false p i = refl

    pub one_exchange : (es : List Entry) → Clear es → count_of (under_way x address) es ≤ 1
    unfolding Clear
    one_exchange [] c = omega (arith, count_nil (under_way x address))
    one_exchange (e ∷ es) c = go (under_way x address e) refl (one_exchange es c.1)
      where
        go : (b : Bool) → under_way x address e ≡ b → count_of (under_way x address) es ≤ 1 → count_of (under_way x address) (e ∷ es) ≤ 1
        go true p ih = omega (arith, count_yes (under_way x address) e es p, alone e es c.0 p)
        go false p ih = omega (arith, count_no (under_way x address) e es p)
