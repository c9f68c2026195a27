-- The rows that the search reads: written one by one, and what they then show.
use Prim.Native.Nat.{ℕ, ◌+◌, ◌*◌, ◌≤◌, ◌<◌}
use native.Mathlib.Omega.{arith}
use mathlib.Core.Path.{◌≡◌, sym, subst, ◌∙◌}
use mathlib.Core.Logic.{⊎_elim}
use mathlib.Core.List.{List}
use lib.ListN.{length, get_or, set, length-set}
use lib.Seq.{get_or-set_same, get_or-set_other}
use Rattle.planner_rules.specs.declared.entry.Entry.{Entry}
use Rattle.planner_rules.specs.Exchange.{transmits, listens}
use Rattle.planner.specs.Promises.{Told, Roomy, Shown, noted}
use Rattle.planner_rules.proofs.Smallest.{le_or_lt}
use Rattle.planner_rules.proofs.Clear.{sent_small}

-- what stands before a slot that is written
before : (v : List ℕ) (i x j : ℕ) → j < i → get_or (set v i x) j 0 ≡ get_or v j 0
before v i x j l = get_or-set_other v i j x 0 (λ (q : j ≡ i). absurd (omega arith))

-- five slots written from k on
module _ (v : List ℕ) (k s u o w z : ℕ) where
  abbrev one : List ℕ
  one = set v k s

  abbrev two : List ℕ
  two = set one (k + 1) u

  abbrev three : List ℕ
  three = set two (k + 2) o

  abbrev four : List ℕ
  four = set three (k + 3) w

  abbrev five : List ℕ
  five = set four (k + 4) z

  five_length : length five ≡ length v
  five_length =
      length-set four (k + 4) z ∙ length-set three (k + 3) w ∙ length-set two (k + 2) o ∙ length-set one (k + 1) u ∙ length-set v k s

  five_kept : (j : ℕ) → j < k → get_or five j 0 ≡ get_or v j 0
  five_kept j l =
      before four (k + 4) z j (omega arith)
      ∙ before three (k + 3) w j (omega arith)
      ∙ before two (k + 2) o j (omega arith)
      ∙ before one (k + 1) u j (omega arith)
      ∙ before v k s j l

  module _ (l : k + 4 < length v) where
    five_0 : get_or five k 0 ≡ s
    five_0 =
        before four (k + 4) z k (omega arith)
        ∙ before three (k + 3) w k (omega arith)
        ∙ before two (k + 2) o k (omega arith)
        ∙ before one (k + 1) u k (omega arith)
        ∙ get_or-set_same v k s 0 (omega arith)

    five_1 : get_or five (k + 1) 0 ≡ u
    five_1 =
        before four (k + 4) z (k + 1) (omega arith)
        ∙ before three (k + 3) w (k + 1) (omega arith)
        ∙ before two (k + 2) o (k + 1) (omega arith)
        ∙ get_or-set_same one (k + 1) u 0 (simp length-set (omega arith))

    five_2 : get_or five (k + 2) 0 ≡ o
    five_2 =
        before four (k + 4) z (k + 2) (omega arith)
        ∙ before three (k + 3) w (k + 2) (omega arith)
        ∙ get_or-set_same two (k + 2) o 0 (simp length-set (omega arith))

    five_3 : get_or five (k + 3) 0 ≡ w
    five_3 = before four (k + 4) z (k + 3) (omega arith) ∙ get_or-set_same three (k + 3) w 0 (simp length-set (omega arith))

    five_4 : get_or five (k + 4) 0 ≡ z
    five_4 = get_or-set_same four (k + 4) z 0 (simp length-set (omega arith))

module _ (e : Entry) (i : ℕ) (rows : List ℕ) where
  -- the row that was written tells of the entry
  told : i < 128 → length rows ≡ 640 → Told (noted e i rows) i e
  unfolding noted
  told l h =
      let r = rows in
      let k : i * 5 + 4 < length r = omega arith in
      record {
        start = five_0 r (i * 5) (transmits e).lo (transmits e).hi (listens e).lo (listens e).hi e.ask.request.address k;
        sent = five_1 r (i * 5) (transmits e).lo (transmits e).hi (listens e).lo (listens e).hi e.ask.request.address k;
        from = five_2 r (i * 5) (transmits e).lo (transmits e).hi (listens e).lo (listens e).hi e.ask.request.address k;
        end = five_3 r (i * 5) (transmits e).lo (transmits e).hi (listens e).lo (listens e).hi e.ask.request.address k;
        address = five_4 r (i * 5) (transmits e).lo (transmits e).hi (listens e).lo (listens e).hi e.ask.request.address k;
      }

  -- and the rows before it tell what they told
  kept : (j : ℕ) → j < i * 5 → get_or (noted e i rows) j 0 ≡ get_or rows j 0
  unfolding noted
  kept = five_kept rows (i * 5) (transmits e).lo (transmits e).hi (listens e).lo (listens e).hi e.ask.request.address

  as_long : length (noted e i rows) ≡ length rows
  unfolding noted
  as_long = five_length rows (i * 5) (transmits e).lo (transmits e).hi (listens e).lo (listens e).hi e.ask.request.address

  still_told : (j : ℕ) (d : Entry) → j < i → Told rows j d → Told (noted e i rows) j d
  still_told j d l t =
      record {
        start = kept (j * 5) (omega arith) ∙ t.start;
        sent = kept (j * 5 + 1) (omega arith) ∙ t.sent;
        from = kept (j * 5 + 2) (omega arith) ∙ t.from;
        end = kept (j * 5 + 3) (omega arith) ∙ t.end;
        address = kept (j * 5 + 4) (omega arith) ∙ t.address;
      }

  still_roomy : (j : ℕ) → j < i → Roomy rows j → Roomy (noted e i rows) j
  still_roomy j l t = record { sent = omega (arith, kept (j * 5 + 1) (omega arith), t.sent); end = omega (arith, kept (j * 5 + 3) (omega arith), t.end) }

  roomy : i < 128 → length rows ≡ 640 → (listens e).hi ≤ 200000 → Roomy (noted e i rows) i
  roomy l h small =
      let t = told l h in
      record { sent = omega (arith, t.sent, sent_small e.ask.request.uf); end = omega (arith, t.end) }

pub shown_none : (rows : List ℕ) (es : List Entry) → length rows ≡ 640 → Shown rows 0 es
shown_none rows es h = record { all = h; each = λ i d l. absurd (omega arith); room = λ i l. absurd (omega arith) }

-- one row more, where the entries before it are the same
shown_more : (rows : List ℕ) (n : ℕ) (es es' : List Entry) (e : Entry) → (listens e).hi ≤ 200000 → n < 128
    → ((i : ℕ) (d : Entry) → i < n → get_or es' i d ≡ get_or es i d) → ((d : Entry) → get_or es' n d ≡ e) → Shown rows n es → Shown (noted e n rows) (n + 1) es'
shown_more rows n es es' e small l same last h =
    record {
      all = as_long e n rows ∙ h.all;
      each =
          λ i d k.
          ⊎_elim
          (λ g.
          let q : n ≡ i = omega arith in
          subst (λ (j : ℕ). Told (noted e n rows) j (get_or es' j d)) q
          (subst (λ (x : Entry). Told (noted e n rows) n x) (sym (last d)) (told e n rows l h.all)))
          (λ g. subst (λ (x : Entry). Told (noted e n rows) i x) (sym (same i d g)) (still_told e n rows i (get_or es i d) g (h.each i d g)))
          (le_or_lt n i);
      room =
          λ i k.
          ⊎_elim
          (λ g. let q : n ≡ i = omega arith in subst (λ (j : ℕ). Roomy (noted e n rows) j) q (roomy e n rows l h.all small))
          (λ g. still_roomy e n rows i g (h.room i g))
          (le_or_lt n i);
    }

-- a row more for an entry that is placed behind the others
pub shown_placed : (rows after : List ℕ) (n : ℕ) (es : List Entry) (e x : Entry) → after ≡ noted e n rows → x ≡ e → (listens e).hi ≤ 200000 → n < length es
    → n < 128 → Shown rows n es → Shown after (n + 1) (set es n x)
shown_placed rows after n es e x q y small k l h =
    rw (q, y)
    (shown_more rows n es (set es n e) e small l
    (λ i d g. get_or-set_other es n i e d (λ (z : i ≡ n). absurd (omega arith)))
    (λ d. get_or-set_same es n e d k)
    h)
