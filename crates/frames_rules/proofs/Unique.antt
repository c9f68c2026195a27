-- What an answer says is unique: answers that say the same are the same answer; a code is that of one CL and IC alone.
use mathlib.Core.Path.{◌≡◌, refl, sym, ap, ◌∙◌}
use mathlib.Core.Bool.{Bool, true, false, ◌&&◌, not}
use mathlib.Core.List.{List}
use Prim.Native.Nat.{ℕ, ◌≤◌}
use native.Mathlib.Omega.{arith}
use lib.Dec.{eqb, leb}
use lib.ListN.{length, get_or}
use borrow.Author.Tests.{leb-true, eqb-true, eqb-false}
use Rattle.lists.specs.Lists.{pick}
use Rattle.lists.specs.Answers.{Answer, done, refusal}
use Rattle.lists.proofs.Tests.{and_true}
use Rattle.std.specs.Prelude.{Option, Some, None, Result, Ok, Err}
use Rattle.refusals.specs.declared.refusal.Refusal.{Refusal}
use Rattle.refusals.specs.Refusals.{number_of}
use Rattle.refusals.proofs.Numbers.{same_number}
use Rattle.parity_rules.proofs.Unique.{apart}
use Rattle.frames_rules.specs.declared.answers.Up.{Up}
use Rattle.frames_rules.specs.declared.answers.Up.TheVariants as up
use Rattle.frames_rules.specs.declared.answers.Down.{Down}
use Rattle.frames_rules.specs.declared.answers.Down.TheVariants as down
use Rattle.frames_rules.specs.declared.answers.Code.{Code}
use Rattle.frames_rules.specs.declared.answers.Code.TheVariants as code
use Rattle.frames_rules.specs.declared.answers.Interrogator.{Interrogator}
use Rattle.frames_rules.specs.declared.answers.Interrogator.TheVariants.{II, SI}
use Rattle.frames_rules.specs.Answers.{Building, built_said, up_values, down_values, code_values, up_said, down_said, code_said, interrogator_said}
use Rattle.frames_rules.specs.Answers.{draws_said, address_said}
use Rattle.frames_rules.specs.Shared.{of_si, si_number, code_for, code_told, drawn, drawn_told}
use Rattle.frames_rules.specs.Addresses.{address_of, address_told}

-- ---- builders
built_same : (a b : Result (Unit {0}) Refusal) (o p : List ℕ) → built_said a o ≡ built_said b p → a ≡ b
built_same (Ok u) (Ok v) o p e = refl
built_same (Ok u) (Err s) o p e = absurd (apart s (ap (λ (x : Building). x.number) e))
built_same (Err r) (Ok v) o p e = absurd (apart r (sym (ap (λ (x : Building). x.number) e)))
built_same (Err r) (Err s) o p e = ap (λ (x : Refusal). Err x) (same_number r s (ap (λ (x : Building). x.number) e))

-- the same number and buffer: the same answer with the same buffer
pub built_one : (a b : Result (Unit {0}) Refusal) (o p : List ℕ) → built_said a o ≡ built_said b p → (a ≡ b) × (o ≡ p)
built_one a b o p e = (built_same a b o p e, ap (λ (x : Building). x.output) e)

-- ---- readers
-- two refusals with one number are the same, and a refusal has not the number of what is done
refusals_one : {A : Type 0} (r s : Refusal) → refusal (number_of r) ≡ refusal (number_of s) → ◌≡◌ {A = Result A Refusal} (Err r) (Err s)
refusals_one r s e = ap (λ (x : Refusal). Err x) (same_number r s (ap (λ (x : Answer). x.number) e))

not_refused : (r : Refusal) (l : List ℕ) → done l ≡ refusal (number_of r) → ⊥
not_refused r l e = apart r (ap (λ (x : Answer). x.number) e)

-- the i-th value
at : List ℕ → ℕ → ℕ
at l i = get_or l i 0

-- the case that the values tell: an interrogation has 7 or 5
up_by : List ℕ → Up
up_by l =
    pick (eqb (length l) 7) (up.Selective (at l 0) (at l 1) (at l 2) (at l 3) (at l 4) (at l 5) (at l 6))
    (up.AllCall (at l 1) (at l 2) (at l 3) (at l 4))

up_back : (u : Up) → up_by (up_values u) ≡ u
unfolding up_by at
up_back (up.Selective uf pc rr di sd ma r) = refl
up_back (up.AllCall pr ic cl r) = refl

pub up_one : (a b : Result Up Refusal) → up_said a ≡ up_said b → a ≡ b
up_one (Ok u) (Ok v) e = ap (λ (x : Up). Ok x) (sym (up_back u) ∙ ap (λ (x : Answer). up_by x.values) e ∙ up_back v)
up_one (Ok u) (Err s) e = absurd (not_refused s _ e)
up_one (Err r) (Ok v) e = absurd (not_refused r _ (sym e))
up_one (Err r) (Err s) e = refusals_one r s e

-- a reply 7 or 4
down_by : List ℕ → Down
down_by l =
    pick (eqb (length l) 7) (down.Surveillance (at l 0) (at l 1) (at l 2) (at l 3) (at l 4) (at l 5) (at l 6))
    (down.AllCall (at l 1) (at l 2) (at l 3))

down_back : (d : Down) → down_by (down_values d) ≡ d
unfolding down_by at
down_back (down.Surveillance df fs dr um value mb r) = refl
down_back (down.AllCall ca address r) = refl

pub down_one : (a b : Result Down Refusal) → down_said a ≡ down_said b → a ≡ b
down_one (Ok d) (Ok f) e = ap (λ (x : Down). Ok x) (sym (down_back d) ∙ ap (λ (x : Answer). down_by x.values) e ∙ down_back f)
down_one (Ok d) (Err s) e = absurd (not_refused s _ e)
down_one (Err r) (Ok f) e = absurd (not_refused r _ (sym e))
down_one (Err r) (Err s) e = refusals_one r s e

code_by : List ℕ → Code
code_by l = pick (eqb (at l 0) 0) code.Own (pick (eqb (at l 0) 1) code.Matching code.Other)

code_back : (c : Code) → code_by (code_values c) ≡ c
unfolding code_by at
code_back code.Own = refl
code_back code.Matching = refl
code_back code.Other = refl

pub code_one : (a b : Result Code Refusal) → code_said a ≡ code_said b → a ≡ b
code_one (Ok c) (Ok d) e = ap (λ (x : Code). Ok x) (sym (code_back c) ∙ ap (λ (x : Answer). code_by x.values) e ∙ code_back d)
code_one (Ok c) (Err s) e = absurd (not_refused s _ e)
code_one (Err r) (Ok d) e = absurd (not_refused r _ (sym e))
code_one (Err r) (Err s) e = refusals_one r s e

-- no value or two: a code; no value or one: a format, an address
interrogator_by : Answer → Option Interrogator
interrogator_by a = pick (eqb (length a.values) 2) (Some (pick (eqb (at a.values 0) 0) (II (at a.values 1)) (SI (at a.values 1)))) None

interrogator_back : (x : Option Interrogator) → interrogator_by (interrogator_said x) ≡ x
unfolding interrogator_by at
interrogator_back (Some (II n)) = refl
interrogator_back (Some (SI n)) = refl
interrogator_back None = refl

pub interrogator_one : (a b : Option Interrogator) → interrogator_said a ≡ interrogator_said b → a ≡ b
interrogator_one a b e = sym (interrogator_back a) ∙ ap interrogator_by e ∙ interrogator_back b

pub code_is : (cl ic : ℕ) (x : Option Interrogator) → interrogator_said x ≡ code_told cl ic → x ≡ code_for cl ic
unfolding code_told
code_is cl ic x e = interrogator_one x (code_for cl ic) e

draws_by : Answer → Option ℕ
draws_by a = pick (eqb (length a.values) 1) (Some (at a.values 0)) None

draws_back : (x : Option ℕ) → draws_by (draws_said x) ≡ x
unfolding draws_by at
draws_back (Some f) = refl
draws_back None = refl

pub draws_one : (a b : Option ℕ) → draws_said a ≡ draws_said b → a ≡ b
draws_one a b e = sym (draws_back a) ∙ ap draws_by e ∙ draws_back b

pub drawn_is : (uf rr : ℕ) (x : Option ℕ) → draws_said x ≡ drawn_told uf rr → x ≡ drawn uf rr
unfolding drawn_told
drawn_is uf rr x e = draws_one x (drawn uf rr) e

address_by : Answer → Option ℕ
address_by a = pick (eqb (length a.values) 1) (Some (at a.values 0)) None

address_back : (x : Option ℕ) → address_by (address_said x) ≡ x
unfolding address_by at
address_back (Some a) = refl
address_back None = refl

pub address_one : (a b : Option ℕ) → address_said a ≡ address_said b → a ≡ b
address_one a b e = sym (address_back a) ∙ ap address_by e ∙ address_back b

pub address_is : (remainder : ℕ) (x : Option ℕ) → address_said x ≡ address_told remainder → x ≡ address_of remainder
unfolding address_told
address_is remainder x e = address_one x (address_of remainder) e

-- ---- codes
-- "an SI lockout that also locks the II of equal number": they are two codes
pub ii_not_si : (m n : ℕ) → II m ≡ SI n → ⊥
ii_not_si m n e = let z : ◌≡◌ {A = ℕ} 0 1 = cc in omega arith

-- what a CL and an IC stand for: II below 16 with CL 0, SI 1 to 63 with CL 1 to 4, or nobody
pub data Stands (cl ic : ℕ) : Option Interrogator → Type 0 where
  ii : cl ≡ 0 → ic ≤ 15 → Stands cl ic (Some (II ic))
  si : 1 ≤ cl → cl ≤ 4 → ic ≤ 15 → (si_number cl ic ≡ 0 → ⊥) → Stands cl ic (Some (SI (si_number cl ic)))
  nobody : Stands cl ic None

not_eqb : (a b : ℕ) → not (eqb a b) ≡ true → a ≡ b → ⊥
not_eqb a b h e = eqb-false a b (go (eqb a b) h) e
  where
    go : (t : Bool) → not t ≡ true → t ≡ false
    go true h = sym h
    go false h = refl

pub stands : (cl ic : ℕ) → Stands cl ic (code_for cl ic)
unfolding code_for
stands cl ic = go (leb ic 15) (eqb cl 0) (of_si cl && not (eqb (si_number cl ic) 0)) refl refl refl
  where
    go : (a b c : Bool) → leb ic 15 ≡ a → eqb cl 0 ≡ b → of_si cl && not (eqb (si_number cl ic) 0) ≡ c
        → Stands cl ic (pick a (pick b (Some (II ic)) (pick c (Some (SI (si_number cl ic))) None)) None)
    go false b c ea eb ec = nobody
    go true true c ea eb ec = ii (eqb-true cl 0 eb) (leb-true ic 15 ea)
    go true false false ea eb ec = nobody
    go true false true ea eb ec =
        let t = and_true (of_si cl) (not (eqb (si_number cl ic) 0)) ec in
        let u = and_true (leb 1 cl) (leb cl 4) t.0 in
        si (leb-true 1 cl u.0) (leb-true cl 4 u.1) (leb-true ic 15 ea) (not_eqb (si_number cl ic) 0 t.1)

-- one code, one CL and IC
same_stands : (cl ic cl' ic' : ℕ) (x y : Option Interrogator) → Stands cl ic x → Stands cl' ic' y → x ≡ y → (x ≡ None → ⊥) → (cl ≡ cl') × (ic ≡ ic')
same_stands cl ic cl' ic' x y nobody t e n = absurd (n refl)
same_stands cl ic cl' ic' x y (ii a b) (ii c d) e n = let q : ic ≡ ic' = cc in (omega arith, q)
same_stands cl ic cl' ic' x y (si a b c d) (si f g h k) e n = let q : si_number cl ic ≡ si_number cl' ic' = cc in (omega arith, omega arith)
same_stands cl ic cl' ic' x y (ii a b) (si f g h k) e n = absurd (ii_not_si ic (si_number cl' ic') cc)
same_stands cl ic cl' ic' x y (si a b c d) (ii f g) e n = absurd (ii_not_si ic' (si_number cl ic) cc)
same_stands cl ic cl' ic' x y (ii a b) nobody e n = absurd (n e)
same_stands cl ic cl' ic' x y (si a b c d) nobody e n = absurd (n e)

pub code_for_one : (cl ic cl' ic' : ℕ) → code_for cl ic ≡ code_for cl' ic' → (code_for cl ic ≡ None → ⊥) → (cl ≡ cl') × (ic ≡ ic')
code_for_one cl ic cl' ic' e n = same_stands cl ic cl' ic' (code_for cl ic) (code_for cl' ic') (stands cl ic) (stands cl' ic') e n
