-- Whether the field of a call holds a number, and what is read of eight.
use Rattle.std.proofs.Common.{◌≡◌, ℕ, suc, ◌+◌, ◌-◌, ◌≤◌, ◌<◌, Bool, true, false, ◌&&◌, Option, Some, None}
use Rattle.std.proofs.Common.{List, length, set, refl, sym, ap, ◌∙◌, arith, add-one}
use mathlib.Core.Bool.{false≢true}
use lib.Seq.{take_all}
use Rattle.text_rules.specs.Put.{laid}
use Rattle.text_rules.proofs.Laid.{take_laid, length_laid}
use Rattle.console_rules.specs.Texts.{number_at}
use Rattle.console_rules.specs.Station.{fits, all_fit, numbers_from}
use Rattle.console_station.specs.Held.{where_fit, narrow, eight_from}

-- two tests: the first fails; it does not, and then the other's answer
pub off : {a : Bool} (b : Bool) → false ≡ a → false ≡ (a && b)
off b e = rw (← e)

pub on : {a b x : Bool} → true ≡ a → x ≡ b → x ≡ (a && b)
on e h = rw (← e) h

-- a number that was read, and one that was not
abbrev is_read : {A : Type 0} → Option A → Bool
is_read None = false
is_read (Some a) = true

abbrev read_or : {A : Type 0} → Option A → A → A
read_or None d = d
read_or (Some a) d = a

module _ (bits n : ℕ) where
  pub wide : None ≡ narrow bits n → false ≡ fits bits n
  wide h = go (fits bits n) h
    where
      go : (t : Bool) → None ≡ where_fit t n → false ≡ t
      go true e = ap is_read e
      go false e = refl

  pub held : {b : ℕ} → Some b ≡ narrow bits n → (true ≡ fits bits n) × (b ≡ n)
  held {b} h = go (fits bits n) h
    where
      go : (t : Bool) → Some b ≡ where_fit t n → (true ≡ t) × (b ≡ n)
      go true e = (refl, ap (λ (o : Option ℕ). read_or o b) e)
      go false e = absurd (false≢true (sym (ap is_read e)))

-- ---- eight numbers, of which those before place i are laid, each of eight bits: the rest tells whether all have, and what is laid then
pub record Reading (k : ℕ) (ws : List (List ℕ)) (start : List ℕ) (i : ℕ) (l : List ℕ) : Type 0 where
  pub rest : (n : ℕ) → i + n ≡ 8
      → (all_fit 8 (numbers_from (k + i) n ws) ≡ all_fit 8 (numbers_from k 8 ws)) × (laid (numbers_from (k + i) n ws) i l ≡ laid (numbers_from k 8 ws) 0 start)

-- a list that is as long as the buffer is the buffer then
laid_whole : (t l : List ℕ) → length t ≡ length l → laid t 0 l ≡ t
laid_whole t l h =
    let e : length (laid t 0 l) ≤ length t = omega (arith, length_laid t 0 l) in
    sym (take_all (length t) (laid t 0 l) e) ∙ take_laid t l (omega arith)

module _ (k : ℕ) (ws : List (List ℕ)) where
  pub reading_first : (l : List ℕ) → Reading k ws l 0 l
  reading_first l =
      record {
        rest =
            λ n e.
            let z : n ≡ 8 = omega arith in
            let y : k + 0 ≡ k = omega arith in
            rw (z, y) (refl, refl);
      }

  module _ {start l : List ℕ} {i : ℕ} (h : Reading k ws start i l) where
    pub reading_more : {n b : ℕ} → n ≡ number_at (k + i) ws → Some b ≡ narrow 8 n → Reading k ws start (i + 1) (set l i b)
    unfolding all_fit numbers_from laid
    reading_more {n} {b} e t =
        record {
          rest =
              λ j q.
              let z : k + (i + 1) ≡ suc (k + i) = omega arith in
              let p = h.rest (suc j) (omega arith) in
              let r = held 8 n t in
              let f : true ≡ fits 8 (number_at (k + i) ws) = rw e at r.0 in
              let v : b ≡ number_at (k + i) ws = r.1 ∙ e in
              rw (z, add-one i, v) (on f refl ∙ p.0, p.1);
        }

    pub reading_wide : {n : ℕ} → n ≡ number_at (k + i) ws → None ≡ narrow 8 n → i < 8 → None ≡ eight_from k ws
    unfolding all_fit numbers_from
    reading_wide {n} e b q =
        let p = h.rest (suc (7 - i)) (omega arith) in
        let f : false ≡ fits 8 (number_at (k + i) ws) = rw e at (wide 8 n b) in
        let g : false ≡ all_fit 8 (numbers_from k 8 ws) = off _ f ∙ p.0 in
        rw (← g)

    pub reading_all : 8 ≤ i → i ≤ 8 → length start ≡ 8 → Some l ≡ eight_from k ws
    unfolding all_fit numbers_from laid
    reading_all a b z =
        let p = h.rest 0 (omega arith) in
        rw (← p.0) (ap Some (p.1 ∙ laid_whole (numbers_from k 8 ws) start (sym z)))
