-- An input that comes in pieces: however it is cut, the lines that are answered are the input's lines.
use Prim.Native.Nat.{ℕ, zero, suc, ◌+◌, ◌-◌, ◌≤◌, ◌<◌, min}
use native.Mathlib.Omega.{arith}
use mathlib.Core.Path.{◌≡◌, refl, sym, ap, ap₂, subst, ◌∙◌}
use mathlib.Core.List.{List, [], ◌∷◌, ◌++◌, append_assoc, append-nil}
use mathlib.Core.Bool.{Bool, true, false}
use borrow.Author.Tests.{ltb-true, ltb-false}
use lib.Dec.{ltb}
use lib.Seq.{drop-drop, take_all, take-length, take-suc-set, set_out, take-append_seam}
use lib.ListN.{length, get_or, set, take, drop, length-drop, length-take, length-set}
use Rattle.lists.specs.Lists.{All}
use Rattle.lists.proofs.Held.{all_nil, all_append}
use Rattle.text_rules.specs.declared.answer.Span.{Span}
use Rattle.text_rules.specs.declared.answer.Gathered.{Gathered}
use Rattle.text_rules.specs.Put.{laid, Put}
use Rattle.text_rules.specs.Line.{newline, in_line, grown, parts, lines_of, front, line_end, line_after, line_at, within, LineHeld}
use Rattle.text_rules.specs.Pieces.{last_line, together, Gathers}
use Rattle.text_rules.proofs.Laid.{laid_out, put_of, put_inside, put_count, put_same}
use Rattle.text_rules.proofs.Runs.{front_more, front_stop, run_is}

-- ---- a line begun: no newline stands in it
abbrev Inside : ℕ → Type 0
Inside b = newline b ≡ false

grows : (b : ℕ) (t : List ℕ) → newline b ≡ false → lines_of (b ∷ t) ≡ grown b (lines_of t)
unfolding lines_of parts
grows b t h = rw h

-- a newline behind it ends it
pub ends : (l : List ℕ) (b : ℕ) (t : List ℕ) → All Inside l → newline b ≡ true → lines_of (l ++ (b ∷ t)) ≡ l ∷ lines_of t
unfolding lines_of parts All grown
ends [] b t h e = rw e
ends (c ∷ l) b t h e = grows c (l ++ (b ∷ t)) h.0 ∙ ap (grown c) (ends l b t h.1 e)

-- the end of the input ends it, if there is any of it
pub last : (l : List ℕ) → All Inside l → lines_of l ≡ last_line l
unfolding lines_of parts All grown
last [] h = refl
last (c ∷ l) h = grows c l h.0 ∙ ap (grown c) (last l h.1) ∙ joined c l
  where
    joined : (c : ℕ) (l : List ℕ) → grown c (last_line l) ≡ (c ∷ l) ∷ []
    joined c [] = refl
    joined c (b ∷ l) = refl

-- ---- a text up to its first newline
goes : (b : ℕ) → newline b ≡ false → in_line b ≡ true
unfolding in_line
goes b e = rw e

stops : (b : ℕ) → newline b ≡ true → in_line b ≡ false
unfolding in_line
stops b e = rw e

-- n bytes stand before it: whether there is one, and what stands behind it
pub record SplitAt (t : List ℕ) (n : ℕ) : Type 0 where
  pub clear : All Inside (take n t)
  pub cut : n < length t → t ≡ take n t ++ (get_or t n 0 ∷ drop (suc n) t)
  pub ends_there : n < length t → newline (get_or t n 0) ≡ true
  pub uncut : length t ≤ n → t ≡ take n t

abbrev pub Split : List ℕ → Type 0
Split t = SplitAt t (front in_line t)

split_by : (b : ℕ) (t : List ℕ) (v : Bool) → newline b ≡ v → Split t → Split (b ∷ t)
unfolding All
split_by b t true e h =
    subst (SplitAt (b ∷ t)) (sym (front_stop in_line b t (stops b e)))
    (record { clear = tt; cut = λ _. refl; ends_there = λ _. e; uncut = λ l. absurd (omega arith) })
split_by b t false e h =
    subst (SplitAt (b ∷ t)) (sym (front_more in_line b t (goes b e)))
    (record {
      clear = (e, h.clear);
      cut = λ l. ap (λ (u : List ℕ). b ∷ u) (h.cut (omega arith));
      ends_there = λ l. h.ends_there (omega arith);
      uncut = λ l. ap (λ (u : List ℕ). b ∷ u) (h.uncut (omega arith));
    })

pub split : (t : List ℕ) → Split t
unfolding All front
split [] = record { clear = tt; cut = λ l. absurd (omega arith); ends_there = λ l. absurd (omega arith); uncut = λ _. refl }
split (b ∷ t) = split_by b t (newline b) refl (split t)

-- ---- by the places of a piece
module _ (p : List ℕ) (at : ℕ) (h : at ≤ length p) where
  abbrev rest : List ℕ
  rest = drop at p

  end_is : line_end p at ≡ at + front in_line rest
  unfolding line_end
  end_is = run_is in_line p at h

  line_is : line_at p at ≡ take (front in_line rest) rest
  unfolding line_at
  line_is = let e : line_end p at - at ≡ front in_line rest = omega (arith, end_is) in rw e

  pub line_inside : All Inside (line_at p at)
  line_inside = rw line_is (split rest).clear

  -- the line ends in the piece
  pub piece_cut : line_end p at < length p → (b : ℕ) × (newline b ≡ true) × (rest ≡ line_at p at ++ (b ∷ drop (line_end p at + 1) p))
  piece_cut l =
      let n = front in_line rest in
      let k : n < length rest = simp length-drop (omega (arith, end_is)) in
      let same : at + suc n ≡ line_end p at + 1 = omega (arith, end_is) in
      let e : drop (suc n) rest ≡ drop (line_end p at + 1) p = drop-drop (suc n) at p ∙ ap (λ (i : ℕ). drop i p) same in
      (get_or rest n 0, (split rest).ends_there k, (split rest).cut k ∙ (rw (line_is, e)))

  -- it does not
  pub piece_uncut : length p ≤ line_end p at → rest ≡ line_at p at
  piece_uncut l = (split rest).uncut (simp length-drop (omega (arith, end_is))) ∙ sym line_is

-- ---- a run that takes an input in pieces, with a state, and what it prints: a line that ends in the piece is answered, and the run goes on behind it; a
-- piece without an end of the line is taken to what was begun; at the end of the input a line begun is answered
module _ {A : Type 0} (text : A → List ℕ → List ℕ) (leaves : A → List ℕ → A) where
  -- the texts of lines, one after the other
  unfoldable pub said_of : A → List (List ℕ) → List ℕ
  said_of a [] = []
  said_of a (l ∷ ls) = text a l ++ said_of (leaves a l) ls

  pub data InPieces : A → List ℕ → List (List ℕ) → List ℕ → Type 0 where
    over : {a : A} → InPieces a [] [] []
    last_piece : {a : A} {b : ℕ} {l : List ℕ} → InPieces a (b ∷ l) [] (text a (b ∷ l))
    a_line : {a : A} {l : List ℕ} (p : List ℕ) (at : ℕ) {ps : List (List ℕ)} {t : List ℕ} → at ≤ length p → line_end p at < length p
        → InPieces (leaves a (l ++ line_at p at)) [] (drop (line_end p at + 1) p ∷ ps) t → InPieces a l (drop at p ∷ ps) (text a (l ++ line_at p at) ++ t)
    a_piece : {a : A} {l : List ℕ} (p : List ℕ) (at : ℕ) {ps : List (List ℕ)} {t : List ℕ} → at ≤ length p → length p ≤ line_end p at
        → InPieces a (l ++ line_at p at) ps t → InPieces a l (drop at p ∷ ps) t

  -- what it prints is the text of the lines of the whole input, however it is cut
  pub pieces_print : {a : A} {l : List ℕ} {ps : List (List ℕ)} {t : List ℕ} → InPieces a l ps t → All Inside l → t ≡ said_of a (lines_of (l ++ together ps))
  unfolding said_of
  pieces_print (over {a}) h = ap (said_of a) (sym (last [] h))
  pieces_print (last_piece {a} {b} {l}) h =
      sym (append-nil (text a (b ∷ l))) ∙ ap (said_of a) (sym (ap lines_of (append-nil (b ∷ l)) ∙ last (b ∷ l) h))
  pieces_print (a_line {a} {l} p at {ps} {t} k e more) h =
      let x = line_at p at in
      let c = piece_cut p at k e in
      let after = drop (line_end p at + 1) p ++ together ps in
      let whole : l ++ (drop at p ++ together ps) ≡ (l ++ x) ++ (c.0 ∷ after) =
      ap (λ (u : List ℕ). l ++ (u ++ together ps)) c.2
      ∙ ap (λ (u : List ℕ). l ++ u) (append_assoc x (c.0 ∷ drop (line_end p at + 1) p) (together ps))
      ∙ sym (append_assoc l x (c.0 ∷ after)) in
      let lines : lines_of (l ++ (drop at p ++ together ps)) ≡ (l ++ x) ∷ lines_of after =
      ap lines_of whole ∙ ends (l ++ x) c.0 after (all_append Inside l x h (line_inside p at k)) c.1 in
      ap (λ (u : List ℕ). text a (l ++ x) ++ u) (pieces_print more (all_nil Inside)) ∙ ap (said_of a) (sym lines)
  pieces_print (a_piece {a} {l} p at {ps} {t} k e more) h =
      let x = line_at p at in
      pieces_print more (all_append Inside l x h (line_inside p at k))
      ∙ ap (λ (u : List ℕ). said_of a (lines_of u)) (append_assoc l x (together ps) ∙ ap (λ (u : List ℕ). l ++ (u ++ together ps)) (sym (piece_uncut p at k e)))

-- ---- what is held of a line in a buffer
-- the bytes held and those laid behind them, as far as there is room
laid_front : (t : List ℕ) (at : ℕ) (l : List ℕ) → at ≤ length l → take (min (length l) (at + length t)) (laid t at l) ≡ take (length l) (take at l ++ t)
unfolding laid
laid_front [] at l h =
    let n : min (length l) (at + 0) ≡ at = omega arith in
    rw (n, append-nil (take at l)) (sym (take_all (length l) (take at l) (simp length-take (omega arith))))
laid_front (b ∷ t) at l h = by_room (ltb at (length l)) refl (λ k. laid_front t (suc at) (set l at b) k)
  where
    by_room : (v : Bool) → ltb at (length l) ≡ v
        → (suc at ≤ length (set l at b)
        → take (min (length (set l at b)) (suc at + length t)) (laid t (suc at) (set l at b)) ≡ take (length (set l at b)) (take (suc at) (set l at b) ++ t))
        → take (min (length l) (at + suc (length t))) (laid t (suc at) (set l at b)) ≡ take (length l) (take at l ++ (b ∷ t))
    by_room true e ih =
        let k : at < length l = ltb-true at (length l) e in
        let m : min (length l) (at + suc (length t)) ≡ min (length (set l at b)) (suc at + length t) = rw (length-set l at b) (omega arith) in
        let f : take (suc at) (set l at b) ≡ take at l ++ (b ∷ []) = take-suc-set l at b k in
        ap (λ (n : ℕ). take n (laid t (suc at) (set l at b))) m
        ∙ ih (rw (length-set l at b) (omega arith))
        ∙ ap₂ (λ (n : ℕ) (v : List ℕ). take n (v ++ t)) (length-set l at b) f
        ∙ ap (take (length l)) (append_assoc (take at l) (b ∷ []) t)
    by_room false e ih =
        let k : length l ≤ at = ltb-false at (length l) e in
        let m : min (length l) (at + suc (length t)) ≡ length l = omega arith in
        rw (m, set_out l at b k, laid_out t (suc at) l (omega arith), take_all at l k, take-append_seam l (b ∷ t)) (take-length l)

pub held_is : {t before after : List ℕ} {n r : ℕ} → n ≤ length before → Put t n before after r → take r after ≡ take (length before) (take n before ++ t)
held_is {t} {before} {after} {n} h p = rw (p.next, p.text) (laid_front t n before h)

-- the line's span found, its bytes put behind those held, and the place behind it: the piece was taken
pub gathers : {before after : List ℕ} {n : ℕ} {piece : List ℕ} {at : ℕ} {w : Span} {size next : ℕ} → LineHeld piece at w
    → Put (take (w.to - w.from) (drop w.from piece)) n before after size → next ≡ line_after piece w.to
    → Gathers before after n piece at (record { size = size; next = next; ended = ltb w.to (length piece) })
unfolding within
gathers h p e = record { laid = put_of h.text p; next = e ∙ rw h.end; ended = rw h.end }

-- ---- a program that holds a line in a buffer of fixed length: its lines are those of the input, and of a line that is longer it answers what the buffer holds
heads : (n : ℕ) (l x : List ℕ) → take n (take n l ++ x) ≡ take n (l ++ x)
heads zero l x = refl
heads (suc n) [] x = refl
heads (suc n) (b ∷ l) x = ap (λ (u : List ℕ). b ∷ u) (heads n l x)

-- the held bytes h of a line, a piece taken, and the bytes held then
pub record Holds (room : ℕ) (h : List ℕ) (p : List ℕ) (at : ℕ) (g : Gathered) (line : List ℕ) : Type 0 where
  pub before : List ℕ
  pub after : List ℕ
  pub n : ℕ
  pub long : length before ≡ room
  pub inside : n ≤ room
  pub held : h ≡ take n before
  pub took : Gathers before after n p at g
  pub line_is : line ≡ take g.size after

holds_line : {room : ℕ} {h p : List ℕ} {at : ℕ} {g : Gathered} {line : List ℕ} → Holds room h p at g line → line ≡ take room (h ++ line_at p at)
holds_line {p = p} {at = at} x =
    x.line_is
    ∙ held_is (rw x.long x.inside) x.took.laid
    ∙ ap₂ (λ (k : ℕ) (u : List ℕ). take k (u ++ line_at p at)) x.long (sym x.held)

module _ {A : Type 0} (most : ℕ) (text : A → List ℕ → List ℕ) (leaves : A → List ℕ → A)
    (same_text : (a : A) (l : List ℕ) → text a (take (suc most) l) ≡ text a l)
    (same_left : (a : A) (l : List ℕ) → leaves a (take (suc most) l) ≡ leaves a l) where
  -- what a run has held of a line, the pieces that come, and what it prints
  pub data Ran : A → List ℕ → List (List ℕ) → List ℕ → Type 0 where
    ran_out : {a : A} → Ran a [] [] []
    ran_last : {a : A} {b : ℕ} {h : List ℕ} → Ran a (b ∷ h) [] (text a (b ∷ h))
    ran_line : {a : A} {h : List ℕ} (p : List ℕ) (at : ℕ) (g : Gathered) (line : List ℕ) {ps : List (List ℕ)} {t : List ℕ} → at ≤ length p
        → Holds (suc most) h p at g line → g.ended ≡ true → Ran (leaves a line) [] (drop g.next p ∷ ps) t → Ran a h (drop at p ∷ ps) (text a line ++ t)
    ran_piece : {a : A} {h : List ℕ} (p : List ℕ) (at : ℕ) (g : Gathered) (line : List ℕ) {ps : List (List ℕ)} {t : List ℕ} → at ≤ length p
        → Holds (suc most) h p at g line → g.ended ≡ false → Ran a line ps t → Ran a h (drop at p ∷ ps) t

  held_line : {h p : List ℕ} {at : ℕ} {g : Gathered} {line : List ℕ} (l : List ℕ) → Holds (suc most) h p at g line → h ≡ take (suc most) l
      → line ≡ take (suc most) (l ++ line_at p at)
  held_line {p = p} {at = at} l x e = holds_line x ∙ ap (λ (u : List ℕ). take (suc most) (u ++ line_at p at)) e ∙ heads (suc most) l (line_at p at)

  -- the same run with whole lines
  whole_lines : {a : A} {h : List ℕ} {ps : List (List ℕ)} {t : List ℕ} → Ran a h ps t → (l : List ℕ) → h ≡ take (suc most) l → InPieces text leaves a l ps t
  whole_lines ran_out [] e = over
  whole_lines ran_out (c ∷ l) e = absurd (omega (arith, ap length e))
  whole_lines (ran_last {a} {b} {h}) [] e = absurd (omega (arith, ap length e))
  whole_lines (ran_last {a} {b} {h}) (c ∷ l) e =
      subst (InPieces text leaves a (c ∷ l) []) (sym (ap (text a) e ∙ same_text a (c ∷ l))) last_piece
  whole_lines (ran_line {a} {h} p at g line {ps} {t} k x f more) l e =
      let q = held_line l x e in
      let said = ap (text a) q ∙ same_text a (l ++ line_at p at) in
      let left = ap (leaves a) q ∙ same_left a (l ++ line_at p at) in
      let ends-here = ltb-true (line_end p at) (length p) (sym x.took.ended ∙ f) in
      let on : g.next ≡ line_end p at + 1 = omega (arith, x.took.next, ends-here) in
      let go = whole_lines more [] refl in
      subst (λ (u : List ℕ). InPieces text leaves a l (drop at p ∷ ps) (u ++ t)) (sym said)
      (a_line p at k ends-here
      (subst (λ (b : A). InPieces text leaves b [] (drop (line_end p at + 1) p ∷ ps) t) left
      (subst (λ (i : ℕ). InPieces text leaves (leaves a line) [] (drop i p ∷ ps) t) on go)))
  whole_lines (ran_piece {a} {h} p at g line {ps} {t} k x f more) l e =
      a_piece p at k (ltb-false (line_end p at) (length p) (sym x.took.ended ∙ f)) (whole_lines more (l ++ line_at p at) (held_line l x e))

  -- from the first piece on: what it prints is the text of the lines of the whole input, however it is cut
  pub whole_run : {a : A} {ps : List (List ℕ)} {t : List ℕ} → Ran a [] ps t → t ≡ said_of text leaves a (lines_of (together ps))
  whole_run r = pieces_print text leaves (whole_lines r [] refl) (all_nil Inside)

-- a step goes on, so a piece ends; and what is held has room
pub goes_on : {before after : List ℕ} {n : ℕ} {p : List ℕ} {at : ℕ} {g : Gathered} → Gathers before after n p at g → at < length p
    → length p - g.next < length p - at
goes_on {p = p} {at = at} x h = omega (arith, x.next, end_is p at (omega arith))

pub held_fits : {before after : List ℕ} {n : ℕ} {p : List ℕ} {at : ℕ} {g : Gathered} → Gathers before after n p at g → g.size ≤ length after
held_fits x = put_inside x.laid

pub held_count : {before after : List ℕ} {n : ℕ} {p : List ℕ} {at : ℕ} {g : Gathered} → Gathers before after n p at g → g.size ≡ length (take g.size after)
held_count x = put_count x.laid

pub held_same : {before after : List ℕ} {n : ℕ} {p : List ℕ} {at : ℕ} {g : Gathered} {k : ℕ} → Gathers before after n p at g
    → length before ≡ k → length after ≡ k
held_same x e = put_same x.laid ∙ e
