-- The reasons not to read a line, from what the code tested.
use Rattle.std.specs.Prelude.{Option, Some, None, Result, Err}
use mathlib.Core.Logic.{◌⊎◌, inl, inr}
use Prim.Native.Nat.{ℕ, suc, ◌+◌, ◌-◌, ◌≤◌, ◌<◌}
use native.Mathlib.Numerals.{add-one}
use native.Mathlib.Omega.{arith}
use mathlib.Core.Path.{◌≡◌, sym, ap, ◌∙◌}
use mathlib.Core.Bool.{Bool, true, false, not, ◌&&◌, and-false}
use mathlib.Core.List.{List}
use lib.Dec.{eqb}
use lib.ListN.{length}
use Rattle.lists.specs.Lists.{pick}
use borrow.Author.Tests.{eq-eqb, ne_eqb}
use Rattle.console_rules.specs.declared.names.Row.{Row}
use Rattle.console_rules.specs.declared.names.Sort.{Sort}
use Rattle.console_rules.specs.declared.names.Sort.TheVariants as sort
use Rattle.console_rules.specs.declared.names.Reason.{Reason}
use Rattle.console_rules.specs.declared.names.Reason.TheVariants.{NoSuchLine, Wanted, NoAircraft}
use Rattle.console_rules.specs.declared.names.Command.{Command}
use Rattle.console_rules.specs.Names.{row_of}
use Rattle.text_rules.specs.Put.{Put}
use Rattle.console_rules.specs.Texts.{word, Brief}
use Rattle.console_rules.proofs.Short.{wanted_fits, no_number_fits, no_bytes_fits}
use Rattle.console_rules.specs.Reasons.{sort_at, says, fault_behind, fault, by_word, judged, reading, reason_text}

-- ---- `search sorting` tells what belongs at a word
module _ (r : Row) (k : ℕ) where
  pub first_bytes : k ≡ r.bytes → sort.Bytes ≡ sort_at r k
  unfolding sort_at
  first_bytes h = rw (eq-eqb k r.bytes h)

  module _ (h : k ≡ r.bytes → ⊥) where
    pub more_bytes : k ≡ r.more → sort.Bytes ≡ sort_at r k
    unfolding sort_at
    more_bytes m = rw (ne_eqb k r.bytes h, eq-eqb k r.more m)

    module _ (m : k ≡ r.more → ⊥) where
      pub with_sign : k ≡ r.sign → sort.Integer ≡ sort_at r k
      unfolding sort_at
      with_sign e = rw (ne_eqb k r.bytes h, ne_eqb k r.more m, eq-eqb k r.sign e)

      pub without_sign : (k ≡ r.sign → ⊥) → sort.Number ≡ sort_at r k
      unfolding sort_at
      without_sign e = rw (ne_eqb k r.bytes h, ne_eqb k r.more m, ne_eqb k r.sign e)

pub ruleset sorting = (first_bytes, more_bytes, with_sign, without_sign)

-- ---- the word at fault: what the words behind the k-th say is what all of them say
abbrev pub Behind : Row → List (List ℕ) → ℕ → Type 0
Behind r ws k = fault_behind r (r.words - k) k ws ≡ fault r ws

pub behind_none : (r : Row) (ws : List (List ℕ)) → Behind r ws 0
unfolding fault
behind_none r ws = let e : r.words - 0 ≡ r.words = omega arith in rw e

module _ (r : Row) (ws : List (List ℕ)) (k : ℕ) (e : Behind r ws k) where
  pub no_fault : r.words ≤ k → None ≡ fault r ws
  unfolding fault_behind
  no_fault h = let z : r.words - k ≡ 0 = omega arith in rw z at e

  module _ (h : k < r.words) {s : Sort} {v : Bool} (at : s ≡ sort_at r (k + 1)) (told : v ≡ says s (word (k + 1) ws)) where
    next : {t : Bool} → v ≡ t → fault r ws ≡ pick t (fault_behind r (r.words - (k + 1)) (k + 1) ws) (Some (k + 1))
    unfolding fault_behind
    next f =
        let n : r.words - k ≡ suc (r.words - (k + 1)) = omega arith in
        let w : says (sort_at r (suc k)) (word (suc k) ws) ≡ v = rw (← add-one k, ← at, ← told) in
        sym e ∙ rw (n, w, f, add-one k)

    pub at_fault : v ≡ false → Some (k + 1) ≡ fault r ws
    at_fault f = sym (next f)

    pub says_more : v ≡ true → Behind r ws (k + 1)
    says_more f = sym (next f)

-- ---- the call of a line that is read, or why it is not
module _ (r : Row) (made : Bool) (ws : List (List ℕ)) {n : ℕ} (count : n ≡ length ws) where
  pub miscounted : (n ≡ r.words + 1 → ⊥) → Err (Wanted r.words) ≡ judged r made ws
  unfolding judged
  miscounted k = rw (ne_eqb (length ws) (suc r.words) (λ z. k (count ∙ z ∙ sym (add-one r.words))))

  module _ (k : n ≡ r.words + 1) where
    counted : eqb (length ws) (suc r.words) ≡ true
    counted = eq-eqb (length ws) (suc r.words) (sym count ∙ k ∙ add-one r.words)

    pub grounded : r.aircraft ≡ true → made ≡ false → Err NoAircraft ≡ judged r made ws
    unfolding judged
    grounded g m = rw (counted, g, m)

    lacks_none : (r.aircraft ≡ false) ⊎ (made ≡ true) → (r.aircraft && not made) ≡ false
    lacks_none (inl g) = ap (λ (v : Bool). v && not made) g
    lacks_none (inr m) = rw (m, and-false r.aircraft)

    pub by_fault : (r.aircraft ≡ false) ⊎ (made ≡ true) → {f g : Option ℕ} → f ≡ fault r ws → f ≡ g → by_word r g ≡ judged r made ws
    unfolding judged
    by_fault g e i = rw (counted, lacks_none g, ← e, i)

-- ---- by the line that the name says
module _ (n : List ℕ) (made : Bool) (ws : List (List ℕ)) {o : Option Row} (found : o ≡ row_of n) where
  pub no_line : o ≡ None → Err NoSuchLine ≡ reading (row_of n) made ws
  unfolding reading
  no_line e = rw (← found, e)

  pub its_line : {r : Row} {x : Result Command Reason} → o ≡ Some r → x ≡ judged r made ws → x ≡ reading (row_of n) made ws
  unfolding reading
  its_line e h = rw (← found, e) h

-- ---- `search reasons` finds that the text of a reason was laid, and fits
module _ {why : Reason} {l m : List ℕ} {q : ℕ} where
  pub reason_laid : {x : Reason} → why ≡ x → Put (reason_text x) 0 l m q → length (reason_text x) ≤ 512 → Brief (reason_text why) l m q
  reason_laid e p h = rw e (record { text_put = p; short = h })

pub no_line_fits : length (reason_text NoSuchLine) ≤ 512
unfolding reason_text
no_line_fits = omega arith

pub no_aircraft_fits : length (reason_text NoAircraft) ≤ 512
unfolding reason_text
no_aircraft_fits = omega arith

pub ruleset reasons = (reason_laid, no_line_fits, wanted_fits, no_aircraft_fits, no_number_fits, no_bytes_fits)
