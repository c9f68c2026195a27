-- A pass and the plan, as the loops make them over the slots.
use Rattle.std.specs.Prelude.{Option, Some, None}
use Prim.Native.Nat.{ℕ, ◌+◌, ◌≤◌, ◌<◌, zero-le, min}
use native.Mathlib.Omega.{arith}
use native.Mathlib.Numerals.{add-one}
use native.Mathlib.Nat.{le_antisymm}
use mathlib.Core.Path.{◌≡◌, refl, sym, subst, ap, ◌∙◌}
use mathlib.Core.List.{List, [], ◌∷◌, ◌++◌, append-nil}
use lib.ListN.{length, get_or, take, drop, set, replicate, length-append, length-take}
use lib.Seq.{append_snoc, length-take-le}
use Rattle.lists.specs.Lists.{over}
use Rattle.lists.proofs.Front.{front_drop, front_end, take_cut}
use Rattle.lists.proofs.Over.{over_none, over_self, over_push, over_over, over_read, take_over}
use Rattle.planner_rules.specs.declared.request.Ask.{Ask}
use Rattle.planner_rules.specs.declared.entry.Entry.{Entry}
use Rattle.planner_rules.specs.declared.setup.Setup.{Setup}
use Rattle.planner_rules.specs.declared.plan.Planned.{Planned}
use Rattle.planner_rules.specs.Exchange.{entry_at}
use Rattle.planner_rules.specs.Fits.{place}
use Rattle.planner_rules.specs.Shares.{share}
use Rattle.planner_rules.specs.Plan.{Board, tried, stays, pass, pass_over, alone, turns, nothing_placed, plan, placed_in, waiting_in, board_of, in_slots}
use Rattle.planner.specs.Promises.{Tallied, Shown, PassedOver, Laid}
use Rattle.planner_rules.proofs.Passes.{passed, longer, turns_sizes, plan_of_nothing}
use Rattle.planner.proofs.Rows.{shown_none}
use Rattle.planner.proofs.Tallies.{tallied_none, tallied_more, tallied_small, at_limit, below_limit}

-- a request that was tried is placed behind the others, or waits behind the others
settled : Option ℕ → Ask → Board → Board
settled (Some t) a x = record { placed = x.placed ++ (entry_at a t ∷ []); waiting = x.waiting }
settled None a x = record { placed = x.placed; waiting = x.waiting ++ (a ∷ []) }

-- the same in the slots
abbrev pub settled_in : Option ℕ → Ask → Planned → Planned
settled_in (Some t) a p = record { placed = p.placed + 1; entries = set p.entries p.placed (entry_at a t); waiting = p.waiting; asks = p.asks }
settled_in None a p = record { placed = p.placed; entries = p.entries; waiting = p.waiting + 1; asks = set p.asks p.waiting a }

settled_more : (s : Option ℕ) (a : Ask) (p : Planned) → (settled_in s a p).placed + (settled_in s a p).waiting ≡ p.placed + p.waiting + 1
settled_more (Some t) a p = omega arith
settled_more None a p = omega arith

settled_grown : (s : Option ℕ) (a : Ask) (p : Planned) (n : ℕ) → n ≤ p.placed → n ≤ (settled_in s a p).placed
settled_grown (Some t) a p n h = omega arith
settled_grown None a p n h = h

-- what waits already, before what a pass leaves
abbrev glue : List Ask → Board → Board
glue ks b = record { placed = b.placed; waiting = ks ++ b.waiting }

snoc_count : {A : Type 0} (v : List A) (x : A) → length v + 1 ≡ length (v ++ (x ∷ []))
snoc_count v x = simp length-append (omega arith)

-- the slots of a board, with one request more
settled_slots : (s : Option ℕ) (a : Ask) (x : Board) (old : List Entry) (base : List Ask) → length x.placed < length old → length x.waiting < length base
    → settled_in s a (in_slots x old base) ≡ in_slots (settled s a x) old base
unfolding settled
settled_slots (Some t) a x old base h k = rw (over_push x.placed old (entry_at a t) (length x.placed) refl h, snoc_count x.placed (entry_at a t))
settled_slots None a x old base h k = rw (over_push x.waiting base a (length x.waiting) refl k, snoc_count x.waiting a)

module _ (L : ℕ) (limits : List ℕ) where
  -- a pass over what is left from the board x
  abbrev rest : Board → List Ask → Board
  rest x w = glue x.waiting (pass L limits x.placed w)

  rest_step : (x : Board) (a : Ask) (w : List Ask) → rest x (a ∷ w) ≡ rest (settled (tried L (share limits a.request.unit) x.placed a) a x) w
  unfolding pass settled
  rest_step x a w = go (tried L (share limits a.request.unit) x.placed a)
    where
      go : (s : Option ℕ)
          → glue x.waiting (elim s as (λ _. Board) [
            | Some t ↦ pass L limits (x.placed ++ (entry_at a t ∷ [])) w
            | None ↦ stays a (pass L limits x.placed w)
          ])
          ≡ rest (settled s a x) w
      go (Some t) = refl
      go None =
          ap (λ (l : List Ask). record { placed = (pass L limits x.placed w).placed; waiting = l })
          (sym (append_snoc x.waiting a (pass L limits x.placed w).waiting))

  rest_end : (x : Board) → rest x [] ≡ x
  unfolding pass
  rest_end x = ap (λ (l : List Ask). record { placed = x.placed; waiting = l }) (append-nil x.waiting)

  -- the pass over what waits in b, after i requests: the slots show a board from which the rest leads to the end of the pass
  pub record Passing (b : Planned) (i : ℕ) (counts : List ℕ) (p : Planned) : Type 0 where
    pub upto : i ≤ b.waiting
    pub sum : p.placed + p.waiting ≡ b.placed + i
    pub grown : b.placed ≤ p.placed
    pub room : b.placed + b.waiting ≤ 128
    pub entries_all : length b.entries ≡ 128
    pub asks_all : length b.asks ≡ 128
    pub board : Board
    pub slots : p ≡ in_slots board b.entries b.asks
    pub tallied : Tallied counts board.placed
    pub is : pass_over L limits (board_of b) ≡ rest board (drop i (waiting_in b))

  module _ (b : Planned) where
    pub pass_start : (counts : List ℕ) → Tallied counts (placed_in b) → b.placed + b.waiting ≤ 128 → length b.entries ≡ 128 → length b.asks ≡ 128
        → Passing b 0 counts (record { placed = b.placed; entries = b.entries; waiting = 0; asks = b.asks })
    pass_start counts c room es ws =
        let n : length (placed_in b) ≡ b.placed = length-take-le b.placed b.entries (omega arith) in
        record {
          upto = zero-le;
          sum = refl;
          grown = omega arith;
          room = room;
          entries_all = es;
          asks_all = ws;
          board = record { placed = placed_in b; waiting = [] };
          slots = rw (n, over_self b.placed b.entries, over_none b.asks);
          tallied = c;
          is = refl;
        }

    module _ (i : ℕ) (counts : List ℕ) (p : Planned) (h : Passing b i counts p) where
      -- what is placed is what the slots show
      here : placed_in p ≡ h.board.placed
      here = ap placed_in h.slots ∙ take_over h.board.placed b.entries

      pub pass_small : (u : ℕ) → share counts u < 255
      pass_small u =
          let n : p.placed ≡ length h.board.placed = ap (λ (q : Planned). q.placed) h.slots in
          tallied_small counts h.board.placed u (omega (arith, h.sum, h.upto, h.room)) h.tallied

      module _ (d : Ask) (l : i < b.waiting) where
        abbrev a : Ask
        a = get_or p.asks i d

        -- what is read has not been written over
        read : get_or b.asks i d ≡ a
        read =
            let m : p.waiting ≡ length h.board.waiting = ap (λ (q : Planned). q.waiting) h.slots in
            sym (ap (λ (q : Planned). get_or q.asks i d) h.slots ∙ over_read h.board.waiting b.asks i d (omega (arith, h.sum, h.grown)))

        step : (s : Option ℕ) (counts' : List ℕ) → s ≡ tried L (share limits a.request.unit) h.board.placed a
            → Tallied counts' (settled s a h.board).placed
            → Passing b (i + 1) counts' (settled_in s a p)
        step s counts' e c =
            let n : p.placed ≡ length h.board.placed = ap (λ (q : Planned). q.placed) h.slots in
            let m : p.waiting ≡ length h.board.waiting = ap (λ (q : Planned). q.waiting) h.slots in
            let es : length h.board.placed < length b.entries = omega (arith, h.sum, h.room, h.entries_all) in
            let ws : length h.board.waiting < length b.asks = omega (arith, h.sum, h.room, h.asks_all) in
            let more = settled_more s a p in
            let w = drop (i + 1) (waiting_in b) in
            let next = front_drop b.waiting b.asks i d (omega (arith, h.asks_all, h.room)) ∙ ap (λ (x : Ask). x ∷ w) read in
            record {
              upto = omega arith;
              sum = omega (arith, h.sum);
              grown = settled_grown s a p b.placed h.grown;
              room = h.room;
              entries_all = h.entries_all;
              asks_all = h.asks_all;
              board = settled s a h.board;
              slots = ap (settled_in s a) h.slots ∙ settled_slots s a h.board b.entries b.asks es ws;
              tallied = c;
              is =
                  h.is
                  ∙ ap (λ (v : List Ask). rest h.board v) next
                  ∙ rest_step h.board a w
                  ∙ ap (λ (q : Option ℕ). rest (settled q a h.board) w) (sym e);
            }

        -- the unit is at its limit; or it is below, and the request is placed, or stays
        module _ (k n : ℕ) (eight : length limits ≡ 8) (q : k ≡ share limits a.request.unit) (c : n ≡ share counts a.request.unit) where
          pub pass_limit : k ≤ n → Passing b (i + 1) counts (settled_in None a p)
          unfolding settled
          pass_limit f = step None counts (at_limit L limits counts h.board.placed a eight h.tallied (omega arith)) h.tallied

          pub pass_stay : n < k → None ≡ place L (placed_in p) a → Passing b (i + 1) counts (settled_in None a p)
          unfolding settled
          pass_stay f e =
              step None counts
              (e ∙ ap (λ (v : List Entry). place L v a) here ∙ below_limit L limits counts h.board.placed a eight h.tallied (omega arith)) h.tallied

          pub pass_at : n < k → (t : ℕ) (x : Entry) (counts' : List ℕ) → x ≡ entry_at a t
              → counts' ≡ set counts a.request.unit (share counts a.request.unit + 1) → Some t ≡ place L (placed_in p) a
              → Passing b (i + 1) counts' (record { placed = p.placed + 1; entries = set p.entries p.placed x; waiting = p.waiting; asks = p.asks })
          unfolding settled
          pass_at f t x counts' y z e =
              rw (y, z)
              (step (Some t) (set counts a.request.unit (share counts a.request.unit + 1))
              (e ∙ ap (λ (v : List Entry). place L v a) here ∙ below_limit L limits counts h.board.placed a eight h.tallied (omega arith))
              (tallied_more counts h.board.placed (entry_at a t) h.tallied))

    -- at the end
    pub pass_end : (i : ℕ) (rows counts : List ℕ) (p : Planned) → b.waiting ≤ i → Passing b i counts p → Shown rows p.placed p.entries
        → PassedOver L limits b p rows counts
    pass_end i rows counts p l h s =
        let none = front_end b.waiting b.asks i (omega (arith, h.asks_all, h.room)) in
        record {
          answer =
              h.slots
              ∙ ap (λ (x : Board). in_slots x b.entries b.asks) (sym (h.is ∙ ap (λ (w : List Ask). rest h.board w) none ∙ rest_end h.board));
          shown = s;
          tallied = rw (here i counts p h) h.tallied;
        }

-- ---- the passes, one after the other
-- slots that hold a board show it
shows : (x : Board) (old : List Entry) (p : Planned) → Laid x old p → board_of p ≡ x
shows x old p h =
    let e : placed_in p ≡ x.placed = rw (h.placed, h.entries) (take_over x.placed old) in
    rw (e, h.asks)

-- a pass over slots that hold a board
pass_laid : (L : ℕ) (limits : List ℕ) (x : Board) (old : List Entry) (p r : Planned) → Laid x old p
    → r ≡ in_slots (pass_over L limits (board_of p)) p.entries p.asks
    → Laid (pass_over L limits x) old r
pass_laid L limits x old p r h q =
    let y = pass_over L limits x in
    let e : r ≡ in_slots y (over x.placed old) p.asks =
    q
    ∙ ap (λ (v : Board). in_slots (pass_over L limits v) p.entries p.asks) (shows x old p h)
    ∙ ap (λ (v : List Entry). in_slots y v p.asks) h.entries in
    record {
      placed = ap (λ (v : Planned). v.placed) e;
      entries = ap (λ (v : Planned). v.entries) e ∙ over_over x.placed y.placed old (longer (passed L limits x.placed x.waiting));
      waiting = ap (λ (v : Planned). v.waiting) e;
      asks = ap waiting_in e ∙ take_over y.waiting p.asks;
    }

-- the turns of the first u units
module _ (L : ℕ) (shares : List ℕ) (n : ℕ) (old : List Entry) (base : List Ask) where
  abbrev begin : Board
  begin = nothing_placed (take n base)

  -- the slots after them, the rows that show the entries and the counts by unit
  pub record Turning (u : ℕ) (p : Planned) (rows counts : List ℕ) : Type 0 where
    pub laid : Laid (turns L shares u begin) old p
    pub shown : Shown rows p.placed p.entries
    pub tallied : Tallied counts (placed_in p)

  pub turn_none : (rows : List ℕ) → length rows ≡ 640 → n ≤ length base
      → Turning 0 (record { placed = 0; entries = old; waiting = n; asks = base }) rows (replicate 8 0)
  unfolding turns
  turn_none rows z h =
      record {
        laid = record { placed = refl; entries = sym (over_none old); waiting = sym (length-take-le n base h); asks = refl };
        shown = shown_none rows old z;
        tallied = tallied_none;
      }

  pub turn_room : (u : ℕ) (p : Planned) (rows counts : List ℕ) → n ≤ 128 → Turning u p rows counts → p.placed + p.waiting ≤ 128
  turn_room u p rows counts h e = omega (arith, e.laid.placed, e.laid.waiting, turns_sizes L shares u begin, length-take n base)

  pub turn_more : (u : ℕ) (limits : List ℕ) (p r : Planned) (rows counts rows' counts' : List ℕ) → limits ≡ alone u shares → Turning u p rows counts
      → PassedOver L limits p r rows' counts'
      → Turning (u + 1) r rows' counts'
  unfolding turns
  turn_more u limits p r rows counts rows' counts' k e q =
      record {
        laid =
            rw (add-one u)
            (pass_laid L (alone u shares) (turns L shares u begin) old p r e.laid
            (q.answer ∙ ap (λ (v : List ℕ). in_slots (pass_over L v (board_of p)) p.entries p.asks) k));
        shown = q.shown;
        tallied = q.tallied;
      }

  -- and the rest by age
  pub all_passed : (s : Setup) (u : ℕ) (p r : Planned) (rows counts rows' counts' : List ℕ) → L ≡ s.period → shares ≡ s.guarantee → u ≤ 8 → 8 ≤ u
      → Turning u p rows counts
      → PassedOver L s.ceiling p r rows' counts' → Laid (plan s (take n base)) old r
  unfolding plan
  all_passed s u p r rows counts rows' counts' x y a b e q =
      let t : Laid (turns L shares 8 begin) old p = subst (λ (k : ℕ). Laid (turns L shares k begin) old p) (le_antisymm a b) e.laid in
      subst (λ (P : ℕ). Laid (pass_over P s.ceiling (turns P s.guarantee 8 begin)) old r) x
      (subst (λ (g : List ℕ). Laid (pass_over L s.ceiling (turns L g 8 begin)) old r) y
      (pass_laid L s.ceiling (turns L shares 8 begin) old p r t q.answer))

-- ---- the plan of the waiting list in the first m slots
module _ (s : Setup) (n m : ℕ) (old : List Entry) (base : List Ask) (k : n ≡ min m 128) (h : length base ≡ 128) where
  cut : take n base ≡ take m base
  cut = ap (λ (i : ℕ). take i base) (k ∙ ap (min m) (sym h)) ∙ take_cut m base

  -- what still waits laid over the slots
  pub plan_shown : (r : Planned) (asks : List Ask) → Laid (plan s (take n base)) old r → asks ≡ over (waiting_in r) base
      → record { placed = r.placed; entries = r.entries; waiting = r.waiting; asks = asks } ≡ in_slots (plan s (take m base)) old base
  plan_shown r asks l e =
      subst (λ (w : List Ask). record { placed = r.placed; entries = r.entries; waiting = r.waiting; asks = asks } ≡ in_slots (plan s w) old base) cut
      (rw (l.placed, l.entries, l.waiting, e, l.asks))

  -- with nothing waiting
  pub plan_idle : n ≡ 0 → record { placed = 0; entries = old; waiting = 0; asks = base } ≡ in_slots (plan s (take m base)) old base
  plan_idle z =
      let e : take m base ≡ [] = sym cut ∙ ap (λ (i : ℕ). take i base) z in
      rw (e, plan_of_nothing s, over_none old, over_none base)
