-- Each unit gets its guarantee, or all that it has waiting, and the first phase places all that it tries.
use Rattle.std.specs.Prelude.{Some, None}
use Prim.Native.Nat.{ℕ, zero, suc, ◌+◌, ◌-◌, ◌*◌, ◌≤◌, ◌<◌, min}
use native.Mathlib.Omega.{arith}
use native.Mathlib.Nat.{eq-or-lt_of_le, le_of_suc-le-suc, le_refl, suc-mul, mul-le-mul_right}
use mathlib.Core.Path.{◌≡◌, refl, sym, subst, ap, ◌∙◌}
use mathlib.Core.Logic.{◌⊎◌, inl, inr, ⊎_elim}
use mathlib.Core.Bool.{Bool, true, false, true≢false}
use mathlib.Core.List.{List, [], ◌∷◌, ◌++◌, map, append-nil}
use lib.Dec.{eqb}
use lib.ListN.{length, get_or, take, replicate, length-append, length-replicate}
use lib.Seq.{append_snoc, take-nil, get_or-set_same, get_or-set_other}
use borrow.Author.Tests.{le-leb, eqb-true, eqb-false, eq-eqb, ne_eqb}
use Rattle.lists.specs.Lists.{filter, total, All}
use Rattle.lists.proofs.Count.{count_nil, count_yes, count_no, count_snoc_yes, count_snoc_no}
use Rattle.lists.proofs.Tests.{and_yes}
use Rattle.lists.proofs.Filter.{filter_nil, filter_yes, filter_no}
use Rattle.lists.proofs.Held.{all_nil, all_head, all_tail, all_snoc, all_map}
use Rattle.lists.proofs.Total.{total_suc, total_le}
use Rattle.planner_rules.specs.declared.request.Ask.{Ask}
use Rattle.planner_rules.specs.declared.entry.Entry.{Entry}
use Rattle.planner_rules.specs.declared.setup.Setup.{Setup}
use Rattle.planner_rules.specs.Exchange.{longest, entry_at, spans}
use Rattle.planner_rules.specs.Fits.{fits, place}
use Rattle.planner_rules.specs.Shares.{share}
use Rattle.planner_rules.specs.Plan.{of_unit, taken, waits, Board, alone, turns, nothing_placed}
use Rattle.planner_rules.specs.Demand3.{Proper, ask_of, oldest}
use Rattle.planner_rules.proofs.Smallest.{le_or_lt, at_first, nowhere_fits}
use Rattle.planner_rules.proofs.Clear.{reply_small, clear_of_late}
use Rattle.planner_rules.proofs.Passes.{Passed, done, put, stay, passed}
use Rattle.planner_rules.proofs.Keeps.{grows, keeps_all, keeps_each}

pub zeros : (n v : ℕ) → ◌≡◌ {A = ℕ} (get_or (replicate n 0) v 0) 0
zeros zero v = refl
zeros (suc n) zero = refl
zeros (suc n) (suc v) = zeros n v

-- the limits of one unit's turn
pub alone_own : (u : ℕ) (shares : List ℕ) → u < 8 → share (alone u shares) u ≡ share shares u
unfolding alone
alone_own u shares l = get_or-set_same (replicate 8 0) u (share shares u) 0 (omega (arith, length-replicate {A = ℕ} 8 0))

pub alone_other : (u v : ℕ) (shares : List ℕ) → (v ≡ u → ⊥) → share (alone u shares) v ≡ 0
unfolding alone
alone_other u v shares ne = get_or-set_other (replicate 8 0) u v (share shares u) 0 ne ∙ zeros 8 v

map_snoc : (es : List Entry) (e : Entry) → map ask_of (es ++ (e ∷ [])) ≡ map ask_of es ++ (e.ask ∷ [])
map_snoc [] e = refl
map_snoc (x ∷ es) e = ap (λ (v : List Ask). x.ask ∷ v) (map_snoc es e)

module _ (s : Setup) where
  -- the most that an exchange in reach takes
  abbrev size : ℕ
  size = longest + s.reach

  -- all is over by B
  abbrev Over : ℕ → List Entry → Type 0
  Over B es = All (λ (e : Entry). (spans e).hi ≤ B) es

  fits_late : (B : ℕ) (es : List Entry) (a : Ask) → Over B es → Proper s a → B + size ≤ s.period → fits s.period es (entry_at a B) ≡ true
  unfolding fits
  fits_late B es a o p room =
      and_yes _ _ (le-leb (spans (entry_at a B)).hi s.period (omega (arith, reply_small a.request.rr))) (clear_of_late (entry_at a B) es o)

  -- where there is room after all that is placed, there is a place, and it is not later than that
  place_early : (B : ℕ) (es : List Entry) (a : Ask) → Over B es → Proper s a → B + size ≤ s.period → (t : ℕ) → place s.period es a ≡ Some t → t ≤ B
  place_early B es a o p room t h =
      ⊎_elim (λ l. l) (λ l. absurd (true≢false (sym (fits_late B es a o p room) ∙ at_first s.period es a t h B l))) (le_or_lt t B)

  place_there : (B : ℕ) (es : List Entry) (a : Ask) → Over B es → Proper s a → B + size ≤ s.period → place s.period es a ≡ None → ⊥
  place_there B es a o p room h = true≢false (sym (fits_late B es a o p room) ∙ nowhere_fits s.period es a h B)

  -- all is over after as many sizes as are placed
  abbrev Packed : List Entry → Type 0
  Packed es = Over (length es * size) es

  packed_more : (es : List Entry) (a : Ask) (t : ℕ) → Packed es → Proper s a → t ≤ length es * size → Packed (es ++ (entry_at a t ∷ []))
  packed_more es a t o p h =
      let n : length (es ++ (entry_at a t ∷ [])) ≡ suc (length es) = simp length-append (omega arith) in
      let m = suc-mul (length es) size in
      rw n
      (all_snoc _ es (entry_at a t)
      (all_map (λ (e : Entry). (spans e).hi ≤ length es * size) (λ (e : Entry). (spans e).hi ≤ suc (length es) * size) (λ e q. omega arith) es o)
      (omega (arith, reply_small a.request.rr)))

  -- the turn of unit u, whose limit is k: there is room for all that it may take, so each try succeeds
  module _ (u k : ℕ) (limits : List ℕ) (its : share limits u ≡ k) (only : (v : ℕ) → (v ≡ u → ⊥) → share limits v ≡ 0) (S : ℕ) (room : S * size ≤ s.period)
    where
      room_for : (es : List Entry) → length es < S → length es * size + size ≤ s.period
      room_for es h = omega (arith, suc-mul (length es) size, mul-le-mul_right size h)

      record Turned (es : List Entry) (w : List Ask) (es' : List Entry) (w' : List Ask) : Type 0 where
        pub packed : Packed es'
        pub few : length es' ≤ S
        pub got : min k (taken u es + waits u w) ≤ taken u es'
        pub took : map ask_of es' ≡ map ask_of es ++ take (k - taken u es) (filter (of_unit u) w)
        pub others : (v : ℕ) → (v ≡ u → ⊥) → (taken v es' ≡ taken v es) × (filter (of_unit v) w' ≡ filter (of_unit v) w)

      -- requests that are taken are the unit's own
      own : (v n : ℕ) → n < share limits v → v ≡ u
      own v n h = go (eqb v u) refl
        where
          go : (b : Bool) → eqb v u ≡ b → v ≡ u
          go true e = eqb-true v u e
          go false e = absurd (omega (arith, only v (eqb-false v u e)))

      -- a request of the unit that stays has the unit at its limit
      full : (es : List Entry) (a : Ask) → Packed es → Proper s a → length es + (k - taken u es) ≤ S → a.request.unit ≡ u
          → (share limits a.request.unit ≤ taken a.request.unit es) ⊎ (place s.period es a ≡ None) → k ≤ taken u es
      full es a o p few q (inl h) = let i : share limits u ≤ taken u es = subst (λ (v : ℕ). share limits v ≤ taken v es) q h in omega arith
      full es a o p few q (inr h) =
          ⊎_elim (λ l. l) (λ l. absurd (place_there (length es * size) es a o p (room_for es (omega arith)) h)) (le_or_lt k (taken u es))

      turned_done : (es : List Entry) → Packed es → length es + (k - taken u es) ≤ S → Turned es [] es []
      turned_done es o few =
          record {
            packed = o;
            few = omega arith;
            got = omega (arith, count_nil (of_unit u));
            took = rw (filter_nil (of_unit u), take-nil {A = Ask} (k - taken u es), append-nil (map ask_of es));
            others = λ v ne. (refl, refl);
          }

      turned_put : (es es' : List Entry) (w w' : List Ask) (a : Ask) (t : ℕ) → a.request.unit ≡ u → taken u es < k
          → Turned (es ++ (entry_at a t ∷ [])) w es' w' → Turned es (a ∷ w) es' w'
      turned_put es es' w w' a t q c ih =
          let e : of_unit u a ≡ true = eq-eqb a.request.unit u q in
          let n : taken u (es ++ (entry_at a t ∷ [])) ≡ suc (taken u es) = count_snoc_yes (λ (e : Entry). of_unit u e.ask) es (entry_at a t) e in
          let m : waits u (a ∷ w) ≡ suc (waits u w) = count_yes (of_unit u) a w e in
          let d : k - taken u es ≡ suc (k - suc (taken u es)) = omega arith in
          record {
            packed = ih.packed;
            few = ih.few;
            got = omega (arith, ih.got);
            took =
                ih.took
                ∙ ap (λ (v : List Ask). v ++ take (k - taken u (es ++ (entry_at a t ∷ []))) (filter (of_unit u) w)) (map_snoc es (entry_at a t))
                ∙ ap (λ (i : ℕ). map ask_of es ++ (a ∷ []) ++ take (k - i) (filter (of_unit u) w)) n
                ∙ append_snoc (map ask_of es) a (take (k - suc (taken u es)) (filter (of_unit u) w))
                ∙ sym
                (ap (λ (v : List Ask). map ask_of es ++ take (k - taken u es) v) (filter_yes (of_unit u) a w e)
                ∙ ap (λ (i : ℕ). map ask_of es ++ take i (a ∷ filter (of_unit u) w)) d);
            others =
                λ v ne.
                let f : of_unit v a ≡ false = ne_eqb a.request.unit v (λ (g : a.request.unit ≡ v). ne (sym g ∙ q)) in (
                  (ih.others v ne).0 ∙ count_snoc_no (λ (e : Entry). of_unit v e.ask) es (entry_at a t) f,
                  (ih.others v ne).1 ∙ sym (filter_no (of_unit v) a w f),
                );
          }

      -- what a request that stays leaves of the other units
      beside : (es es' : List Entry) (w w' : List Ask) (a : Ask) (v : ℕ) → (taken v es' ≡ taken v es) × (filter (of_unit v) w' ≡ filter (of_unit v) w)
          → (taken v es' ≡ taken v es) × (filter (of_unit v) (a ∷ w') ≡ filter (of_unit v) (a ∷ w))
      beside es es' w w' a v ih = (ih.0, go (of_unit v a) refl)
        where
          go : (b : Bool) → of_unit v a ≡ b → filter (of_unit v) (a ∷ w') ≡ filter (of_unit v) (a ∷ w)
          go true e = filter_yes (of_unit v) a w' e ∙ ap (λ (x : List Ask). a ∷ x) ih.1 ∙ sym (filter_yes (of_unit v) a w e)
          go false e = filter_no (of_unit v) a w' e ∙ ih.1 ∙ sym (filter_no (of_unit v) a w e)

      turned_stay : (es es' : List Entry) (w w' : List Ask) (a : Ask) → (a.request.unit ≡ u → k ≤ taken u es) → taken u es ≤ taken u es' → Turned es w es' w'
          → Turned es (a ∷ w) es' (a ∷ w')
      turned_stay es es' w w' a at_limit more ih = go (of_unit u a) refl
        where
          go : (b : Bool) → of_unit u a ≡ b → Turned es (a ∷ w) es' (a ∷ w')
          go true e =
              let l = at_limit (eqb-true a.request.unit u e) in
              let z : k - taken u es ≡ 0 = omega arith in
              record {
                packed = ih.packed;
                few = ih.few;
                got = omega arith;
                took =
                    ih.took
                    ∙ ap (λ (i : ℕ). map ask_of es ++ take i (filter (of_unit u) w)) z
                    ∙ sym (ap (λ (i : ℕ). map ask_of es ++ take i (filter (of_unit u) (a ∷ w))) z);
                others = λ v ne. beside es es' w w' a v (ih.others v ne);
              }
          go false e =
              let m : waits u (a ∷ w) ≡ waits u w = count_no (of_unit u) a w e in
              record {
                packed = ih.packed;
                few = ih.few;
                got = omega (arith, ih.got);
                took = ih.took ∙ ap (λ (x : List Ask). map ask_of es ++ take (k - taken u es) x) (sym (filter_no (of_unit u) a w e));
                others = λ v ne. beside es es' w w' a v (ih.others v ne);
              }

      turned : {es es' : List Entry} {w w' : List Ask} → Passed s.period limits es w es' w' → Packed es → All (Proper s) w
          → length es + (k - taken u es) ≤ S → Turned es w es' w'
      turned {es} done o pw few = turned_done es o few
      turned (put {es = es} {es' = es'} {w = w} {w' = w'} a t c p r) o pw few =
          let q : a.request.unit ≡ u = own a.request.unit (taken a.request.unit es) c in
          let below : taken u es < share limits u = subst (λ (v : ℕ). taken v es < share limits v) q c in
          let n : taken u (es ++ (entry_at a t ∷ [])) ≡ suc (taken u es) = count_snoc_yes (λ (e : Entry). of_unit u e.ask) es (entry_at a t)
          (eq-eqb a.request.unit u q) in
          let m : length (es ++ (entry_at a t ∷ [])) ≡ suc (length es) = simp length-append (omega arith) in
          let pa = all_head (Proper s) a w pw in
          let early : t ≤ length es * size = place_early (length es * size) es a o pa (room_for es (omega arith)) t p in
          turned_put es es' w w' a t q (omega arith) (turned r (packed_more es a t o pa early) (all_tail (Proper s) a w pw) (omega arith))
      turned (stay {es = es} {es' = es'} {w = w} {w' = w'} a c r) o pw few =
          turned_stay es es' w w' a (λ q. full es a o (all_head (Proper s) a w pw) few q c) (grows (λ (e : Entry). of_unit u e.ask) r)
          (turned r o (all_tail (Proper s) a w pw) few)

module _ (s : Setup) (fit : total (share s.guarantee) 8 * size s ≤ s.period) (w : List Ask) (pw : All (Proper s) w) where
  abbrev after : ℕ → Board
  after n = turns s.period s.guarantee n (nothing_placed w)

  -- after the turns of the first n units
  pub record After (n : ℕ) : Type 0 where
    pub packed : Packed s (after n).placed
    pub few : length (after n).placed ≤ total (share s.guarantee) n
    pub proper : All (Proper s) (after n).waiting
    pub sum : (u : ℕ) → taken u (after n).placed + waits u (after n).waiting ≡ waits u w
    pub got : (u : ℕ) → u < n → min (share s.guarantee u) (waits u w) ≤ taken u (after n).placed
    pub took : map ask_of (after n).placed ≡ oldest s.guarantee n w
    pub untouched : (v : ℕ) → n ≤ v → (taken v (after n).placed ≡ 0) × (filter (of_unit v) (after n).waiting ≡ filter (of_unit v) w)

  after_none : After 0
  unfolding turns oldest
  after_none =
      record {
        packed = all_nil _;
        few = omega arith;
        proper = pw;
        sum = λ u. omega (arith, count_nil (λ (e : Entry). of_unit u e.ask));
        got = λ u l. absurd (omega arith);
        took = refl;
        untouched = λ v l. (count_nil _, refl);
      }

  after_more : (n : ℕ) → n < 8 → After n → After (suc n)
  unfolding turns oldest
  after_more n h i =
      let its = alone_own n s.guarantee h in
      let r = passed s.period (alone n s.guarantee) (after n).placed (after n).waiting in
      let one = total_suc (share s.guarantee) n in
      let none = i.untouched n (le_refl n) in
      let all : k - taken n (after n).placed ≡ k = omega (arith, none.0) in
      let room : total (share s.guarantee) (suc n) * size s ≤ s.period =
      omega (arith, mul-le-mul_right (size s) (total_le (share s.guarantee) (suc n) 8 h)) in
      let t = turned s n k (alone n s.guarantee) its (λ v ne. alone_other n v s.guarantee ne) (total (share s.guarantee) (suc n)) room r i.packed
      i.proper (omega (arith, i.few)) in
      record {
        packed = t.packed;
        few = t.few;
        proper = keeps_each (Proper s) r i.proper;
        sum = λ u. keeps_all (of_unit u) r ∙ i.sum u;
        got =
            λ u l.
            ⊎_elim
            (λ e. subst (λ (v : ℕ). min (share s.guarantee v) (waits v w) ≤ taken v (after (suc n)).placed) (sym e) (omega (arith, i.sum n, t.got)))
            (λ b. omega (arith, i.got u b, grows (λ (e : Entry). of_unit u e.ask) r))
            (eq-or-lt_of_le (le_of_suc-le-suc l));
        took =
            t.took
            ∙ ap (λ (j : ℕ). map ask_of (after n).placed ++ take j (filter (of_unit n) (after n).waiting)) all
            ∙ ap (λ (v : List Ask). map ask_of (after n).placed ++ take k v) none.1
            ∙ ap (λ (v : List Ask). v ++ take k (filter (of_unit n) w)) i.took;
        untouched =
            λ v l.
            let b = i.untouched v (omega arith) in
            let c = t.others v (λ (e : v ≡ n). omega arith) in
            (c.0 ∙ b.0, c.1 ∙ b.1);
      }
    where
      k : ℕ
      k = share s.guarantee n

  pub afters : (n : ℕ) → n ≤ 8 → After n
  afters zero h = after_none
  afters (suc n) h = after_more n h (afters n (omega arith))
