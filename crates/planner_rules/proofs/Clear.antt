-- When exchanges are clear: either way round, one after the other, and beside a list of them.
use Prim.Native.Nat.{ℕ, ◌+◌, ◌-◌, ◌≤◌}
use native.Mathlib.Omega.{arith}
use mathlib.Core.Path.{◌≡◌, refl, sym, ap, ◌∙◌}
use mathlib.Core.Bool.{Bool, true, false, not, ◌&&◌, ◌||◌, true≢false}
use mathlib.Core.List.{List, [], ◌∷◌, ◌++◌}
use lib.Dec.{leb, eqb}
use lib.ListN.{take, drop}
use lib.Seq.{take-add}
use borrow.Author.Tests.{le-leb, eqb-true, eqb-false, eq-eqb, ne_eqb}
use Rattle.lists.specs.Lists.{pick, All}
use Rattle.lists.proofs.Tests.{and_yes}
use Rattle.planner_rules.specs.declared.entry.Entry.{Entry}
use Rattle.planner_rules.specs.Exchange.{Span, sent_short, sent_long, reply_short, reply_long, sent_for, reply_for, transmits, listens, spans, same_aircraft}
use Rattle.planner_rules.specs.Exchange.{apart, clear}
use Rattle.planner_rules.specs.Fits.{clear_of}

-- the lengths of Annex 10 are small
small : (b : Bool) (x y n : ℕ) → x ≤ n → y ≤ n → pick b x y ≤ n
small true x y n p q = p
small false x y n p q = q

pub sent_small : (uf : ℕ) → sent_for uf ≤ 135
unfolding sent_for
sent_small uf = small (leb 20 uf) sent_long sent_short 135 (omega arith) (omega arith)

pub reply_small : (rr : ℕ) → reply_for rr ≤ 480
unfolding reply_for
reply_small rr = small (leb 16 rr) reply_long reply_short 480 (omega arith) (omega arith)

-- two intervals, either way round
or_swap : (a b : Bool) → (a || b) ≡ (b || a)
or_swap true true = refl
or_swap true false = refl
or_swap false true = refl
or_swap false false = refl

pub or_right : (a : Bool) {b : Bool} → b ≡ true → (a || b) ≡ true
or_right true q = refl
or_right false q = q

apart_swap : (a b : Span) → apart a b ≡ apart b a
unfolding apart
apart_swap a b = or_swap (leb a.hi b.lo) (leb b.hi a.lo)

eqb_swap : (a b : ℕ) → eqb a b ≡ eqb b a
eqb_swap a b = go (eqb a b) refl
  where
    go : (t : Bool) → eqb a b ≡ t → eqb a b ≡ eqb b a
    go true e = e ∙ sym (eq-eqb b a (sym (eqb-true a b e)))
    go false e = e ∙ sym (ne_eqb b a (λ q. eqb-false a b e (sym q)))

and_swap : (p q r s t : Bool) → (p && q && r && s && t) ≡ (p && r && q && s && t)
and_swap true true true s t = refl
and_swap true true false s t = refl
and_swap true false true s t = refl
and_swap true false false s t = refl
and_swap false q r s t = refl

pub clear_swap : (d e : Entry) → clear d e ≡ clear e d
unfolding clear
clear_swap d e =
    rw (
      apart_swap (transmits d) (transmits e),
      apart_swap (transmits d) (listens e),
      apart_swap (listens d) (transmits e),
      apart_swap (listens d) (listens e),
      apart_swap (spans d) (spans e),
      eqb_swap d.ask.request.address e.ask.request.address,
    )
    (and_swap
    (apart (transmits e) (transmits d))
    (apart (listens e) (transmits d))
    (apart (transmits e) (listens d))
    (apart (listens e) (listens d))
    (not (same_aircraft e d) || apart (spans e) (spans d)))

-- an interval from where the other ends
apart_late : (a b : Span) → b.hi ≤ a.lo → apart a b ≡ true
unfolding apart
apart_late a b h = or_right (leb a.hi b.lo) (le-leb _ _ h)

-- an exchange from where the other ends
pub clear_late : (d e : Entry) → (spans e).hi ≤ d.start → clear d e ≡ true
unfolding clear
clear_late d e h =
    let n = sent_small e.ask.request.uf in
    and_yes _ _
    (and_yes _ _
    (and_yes _ _
    (and_yes _ _ (apart_late (transmits d) (transmits e) (omega arith)) (apart_late (transmits d) (listens e) (omega arith)))
    (apart_late (listens d) (transmits e) (omega arith)))
    (apart_late (listens d) (listens e) (omega arith)))
    (or_right (not (same_aircraft d e)) (apart_late (spans d) (spans e) h))

-- beside a list: one more behind, a part of it, and all of it over before
and_assoc : (a b c : Bool) → (a && (b && c)) ≡ ((a && b) && c)
and_assoc true b c = refl
and_assoc false b c = refl

and_true : (a : Bool) → (a && true) ≡ a
and_true true = refl
and_true false = refl

module _ (d : Entry) where
  pub clear_of_none : clear_of d [] ≡ true
  unfolding clear_of
  clear_of_none = refl

  pub clear_of_snoc : (es : List Entry) (e : Entry) → clear_of d (es ++ (e ∷ [])) ≡ (clear_of d es && clear d e)
  unfolding clear_of
  clear_of_snoc [] e = and_true (clear d e)
  clear_of_snoc (x ∷ es) e = ap (λ (b : Bool). clear d x && b) (clear_of_snoc es e) ∙ and_assoc (clear d x) (clear_of d es) (clear d e)

  unclear_append : (v w : List Entry) → clear_of d v ≡ false → clear_of d (v ++ w) ≡ false
  unfolding clear_of
  unclear_append [] w h = absurd (true≢false h)
  unclear_append (x ∷ v) w h = go (clear d x) h (λ q. unclear_append v w q)
    where
      go : (b : Bool) → (b && clear_of d v) ≡ false → (clear_of d v ≡ false → clear_of d (v ++ w) ≡ false) → (b && clear_of d (v ++ w)) ≡ false
      go true q ih = ih q
      go false q ih = refl

  pub unclear_part : (es : List Entry) (i n : ℕ) → i ≤ n → clear_of d (take i es) ≡ false → clear_of d (take n es) ≡ false
  unclear_part es i n l h =
      let e : i + (n - i) ≡ n = omega arith in
      let s : take n es ≡ take i es ++ take (n - i) (drop i es) = rw e at (take-add i (n - i) es) in
      rw s (unclear_append (take i es) (take (n - i) (drop i es)) h)

  pub clear_of_late : (es : List Entry) → All (λ (e : Entry). (spans e).hi ≤ d.start) es → clear_of d es ≡ true
  unfolding clear_of All
  clear_of_late [] h = refl
  clear_of_late (e ∷ es) h = and_yes _ _ (clear_late d e h.0) (clear_of_late es h.1)
