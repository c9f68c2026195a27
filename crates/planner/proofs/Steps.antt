-- How the steps of the search for a place fit together.
use Rattle.std.specs.Prelude.{Some, None}
use Prim.Native.Nat.{ℕ, ◌+◌, ◌≤◌, ◌<◌}
use native.Mathlib.Omega.{arith}
use mathlib.Core.Path.{◌≡◌, refl, sym, subst, ap, fun_ext, ◌∙◌}
use mathlib.Core.Logic.{⊎_elim}
use mathlib.Core.Bool.{Bool, true, false, not, ◌&&◌, ◌||◌}
use mathlib.Core.List.{List, [], ◌∷◌, ◌++◌}
use lib.ListN.{length, get_or, take}
use lib.Dec.{leb}
use borrow.Author.Tests.{le-leb, lt-leb, eq-eqb, ne_eqb}
use Rattle.lists.proofs.Tests.{and_yes, and_no_left, and_no_right}
use Rattle.lists.proofs.Front.{front_take}
use Rattle.planner_rules.specs.declared.request.Ask.{Ask}
use Rattle.planner_rules.specs.declared.entry.Entry.{Entry}
use Rattle.planner.specs.declared.exchange.Exchange.{Exchange}
use Rattle.planner_rules.specs.Exchange.{Span, exchange_of, entry_at, transmits, listens, spans, apart, clear}
use Rattle.planner_rules.specs.Fits.{clear_of, fits, place}
use Rattle.planner.specs.Promises.{held, Past, Step}
use Rattle.planner_rules.proofs.Smallest.{le_or_lt, late, place_at, place_none}
use Rattle.planner_rules.proofs.Clear.{or_right, clear_swap, clear_late, clear_of_none, clear_of_snoc, unclear_part}

-- one interval of an exchange against one of another
past_step : (p : ℕ → Span) (q : Span) (a b lo hi t r : ℕ) → ((j : ℕ) → (p j).lo ≡ j + a) → ((j : ℕ) → (p j).hi ≡ j + b) → q.lo ≡ lo → q.hi ≡ hi
    → Past t a b lo hi r → Step (λ (j : ℕ). apart (p j) q) t r
unfolding apart
past_step p q a b lo hi t r l h ql qh s =
    record {
      up = s.up;
      cap = s.cap;
      none =
          λ j from to.
          let n = s.none j from to in
          rw (lt-leb (p j).hi q.lo (omega (arith, h j, n.0)), lt-leb q.hi (p j).lo (omega (arith, l j, n.1)));
      same =
          λ e.
          ⊎_elim
          (λ n. rw (le-leb (p t).hi q.lo (omega (arith, h t))))
          (λ n. or_right (leb (p t).hi q.lo) (le-leb q.hi (p t).lo (omega (arith, l t))))
          (s.same e);
    }

-- one step after the other, for what passes both
then : (f g : ℕ → Bool) (t r s : ℕ) → Step f t r → Step g r s → Step (λ (j : ℕ). f j && g j) t s
then f g t r s x y =
    record {
      up = omega (arith, x.up, y.up);
      cap = y.cap;
      none = λ j from to. ⊎_elim (λ l. and_no_right (f j) (g j) (y.none j l to)) (λ l. and_no_left (f j) (g j) (x.none j from l)) (le_or_lt r j);
      same =
          λ e.
          let q : r ≡ t = omega (arith, x.up, y.up) in
          and_yes (f t) (g t) (x.same q) (subst (λ (k : ℕ). g k ≡ true) q (y.same (e ∙ sym q)));
    }

-- nothing is in the way
stay_put : (f : ℕ → Bool) (t : ℕ) → t ≤ 200000 → f t ≡ true → Step f t t
stay_put f t small passes = record { up = omega arith; cap = small; none = λ j from to. absurd (omega arith); same = λ e. passes }

-- a request tried from t on, against an entry e
module _ (a : Ask) (e : Entry) (t : ℕ) (p : Exchange) (at sent from end : ℕ) (x : p ≡ held (exchange_of a)) (at-is : at ≡ (transmits e).lo)
    (sent_is : sent ≡ (transmits e).hi) (from_is : from ≡ (listens e).lo) (end_is : end ≡ (listens e).hi) where
  p_sent : p.sent ≡ (exchange_of a).sent
  p_sent = ap (λ (r : Exchange). r.sent) x

  p_from : p.from ≡ (exchange_of a).from
  p_from = ap (λ (r : Exchange). r.from) x

  p_to : p.to ≡ (exchange_of a).to
  p_to = ap (λ (r : Exchange). r.to) x

  abbrev four : ℕ → Bool
  four j =
      apart (transmits (entry_at a j)) (transmits e)
      && apart (transmits (entry_at a j)) (listens e)
      && apart (listens (entry_at a j)) (transmits e)
      && apart (listens (entry_at a j)) (listens e)

  -- the four intervals
  ground : (t1 t2 t3 t4 : ℕ) → Past t 0 p.sent at sent t1 → Past t1 0 p.sent from end t2 → Past t2 p.from p.to at sent t3
      → Past t3 p.from p.to from end t4 → Step four t t4
  ground t1 t2 t3 t4 p1 p2 p3 p4 =
      let s1 = past_step (λ (j : ℕ). transmits (entry_at a j)) (transmits e) 0 p.sent at sent t t1 (λ j. omega arith) (λ j. omega (arith, p_sent))
      (sym at-is) (sym sent_is) p1 in
      let s2 = past_step (λ (j : ℕ). transmits (entry_at a j)) (listens e) 0 p.sent from end t1 t2 (λ j. omega arith) (λ j. omega (arith, p_sent))
      (sym from_is) (sym end_is) p2 in
      let s3 = past_step (λ (j : ℕ). listens (entry_at a j)) (transmits e) p.from p.to at sent t2 t3 (λ j. omega (arith, p_from))
      (λ j. omega (arith, p_to)) (sym at-is) (sym sent_is) p3 in
      let s4 = past_step (λ (j : ℕ). listens (entry_at a j)) (listens e) p.from p.to from end t3 t4 (λ j. omega (arith, p_from))
      (λ j. omega (arith, p_to)) (sym from_is) (sym end_is) p4 in
      then _ _ t t3 t4 (then _ _ t t2 t3 (then _ _ t t1 t2 s1 s2) s3) s4

  -- and for one aircraft the whole spans
  pub one_aircraft : (t1 t2 t3 t4 t5 : ℕ) → Past t 0 p.sent at sent t1 → Past t1 0 p.sent from end t2 → Past t2 p.from p.to at sent t3
      → Past t3 p.from p.to from end t4 → a.request.address ≡ e.ask.request.address → Past t4 0 p.to at end t5
      → Step (λ (j : ℕ). clear (entry_at a j) e) t t5
  unfolding clear
  one_aircraft t1 t2 t3 t4 t5 p1 p2 p3 p4 same w =
      let s5 = past_step (λ (j : ℕ). spans (entry_at a j)) (spans e) 0 p.to at end t4 t5 (λ j. omega arith) (λ j. omega (arith, p_to)) (sym at-is)
      (sym end_is) w in
      then _ _ t t4 t5 (ground t1 t2 t3 t4 p1 p2 p3 p4)
      (subst (λ (b : Bool). Step (λ (j : ℕ). not b || apart (spans (entry_at a j)) (spans e)) t4 t5) (sym (eq-eqb _ _ same)) s5)

  pub two_aircraft : (t1 t2 t3 t4 : ℕ) → Past t 0 p.sent at sent t1 → Past t1 0 p.sent from end t2 → Past t2 p.from p.to at sent t3
      → Past t3 p.from p.to from end t4 → (a.request.address ≡ e.ask.request.address → ⊥) → Step (λ (j : ℕ). clear (entry_at a j) e) t t4
  unfolding clear
  two_aircraft t1 t2 t3 t4 p1 p2 p3 p4 other =
      let s = ground t1 t2 t3 t4 p1 p2 p3 p4 in
      then _ _ t t4 t4 s
      (subst (λ (b : Bool). Step (λ (j : ℕ). not b || apart (spans (entry_at a j)) (spans e)) t4 t4) (sym (ne_eqb _ _ other)) (stay_put _ t4 s.cap refl))

  -- one is over before the other starts
  pub entry_over : t ≤ 200000 → end ≤ t → Step (λ (j : ℕ). clear (entry_at a j) e) t t
  entry_over small h = stay_put (λ (j : ℕ). clear (entry_at a j) e) t small (clear_late (entry_at a t) e (omega (arith, end_is)))

  pub request_over : t ≤ 200000 → t + p.to ≤ at → Step (λ (j : ℕ). clear (entry_at a j) e) t t
  request_over small h =
      stay_put (λ (j : ℕ). clear (entry_at a j) e) t small (clear_swap (entry_at a t) e ∙ clear_late e (entry_at a t) (omega (arith, p_to, at-is)))

-- a round over the first entries, one after the other
module _ (a : Ask) (es : List Entry) where
  abbrev clear_at : ℕ → ℕ → Bool
  clear_at i j = clear_of (entry_at a j) (take i es)

  pub round_first : (t : ℕ) → t ≤ 200000 → Step (clear_at 0) t t
  round_first t small = stay_put (clear_at 0) t small (clear_of_none (entry_at a t))

  pub round_more : (t r s i : ℕ) (d : Entry) → i < length es → Step (clear_at i) t r → Step (λ (j : ℕ). clear (entry_at a j) (get_or es i d)) r s
      → Step (clear_at (i + 1)) t s
  round_more t r s i d l x y =
      subst (λ (f : ℕ → Bool). Step f t s) (same (front_take (i + 1) es i d (omega arith)))
      (then (clear_at i) (λ (j : ℕ). clear (entry_at a j) (get_or es i d)) t r s x y)
    where
      same : take (i + 1) es ≡ take i es ++ (get_or es i d ∷ [])
          → ◌≡◌ {A = ℕ → Bool} (λ (j : ℕ). clear_at i j && clear (entry_at a j) (get_or es i d)) (clear_at (i + 1))
      same e = fun_ext (λ j. sym (ap (clear_of (entry_at a j)) e ∙ clear_of_snoc (entry_at a j) (take i es) (get_or es i d)))

  -- a round that moved and stops early: what the first i do not let through, the first n do not
  pub round_rest : (t r i n : ℕ) → i ≤ n → t < r → Step (clear_at i) t r → Step (clear_at n) t r
  round_rest t r i n l moved x =
      record {
        up = x.up;
        cap = x.cap;
        none = λ j from to. unclear_part (entry_at a j) es i n l (x.none j from to);
        same = λ e. absurd (omega arith);
      }

-- rounds over the first n entries: no start below t fits
module _ (L : ℕ) (a : Ask) (n : ℕ) (es : List Entry) where
  pub record Below (t : ℕ) : Type 0 where
    pub none : (j : ℕ) → j < t → fits L (take n es) (entry_at a j) ≡ false

  pub below_first : Below 0
  below_first = record { none = λ j l. absurd (omega arith) }

  pub below_more : (t r : ℕ) → Below t → Step (clear_at a es n) t r → Below r
  unfolding fits
  below_more t r h s =
      record {
        none = λ j l. ⊎_elim (λ k. and_no_right (leb (spans (entry_at a j)).hi L) _ (s.none j k l)) (λ k. h.none j k) (le_or_lt t j);
      }

  pub found : (t end : ℕ) → end ≡ (exchange_of a).to → t + end ≤ L → Below t → clear_at a es n t ≡ true → Some t ≡ place L (take n es) a
  unfolding fits
  found t end q ends h full = place_at L (take n es) a t (and_yes _ _ (le-leb (spans (entry_at a t)).hi L (omega arith)) full) h.none

  pub none_left : (t end : ℕ) → end ≡ (exchange_of a).to → L < t + end → Below t → None ≡ place L (take n es) a
  none_left t end q over h =
      place_none L (take n es) a (λ j. ⊎_elim (λ k. late L (take n es) (entry_at a j) (omega arith)) (λ k. h.none j k) (le_or_lt t j))
