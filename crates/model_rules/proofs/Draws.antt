-- Theorems of all-calls: when one is answered, and by how many of the 16 draws.
use Prim.Native.Nat.{ℕ, zero, suc, ◌+◌, ◌-◌, ◌/◌, ◌^◌, ◌<◌, ◌≤◌}
use native.Mathlib.Omega.{arith}
use mathlib.Core.Path.{◌≡◌, refl, sym, ap, ◌∙◌}
use mathlib.Core.Bool.{Bool, true, false, ◌&&◌, not}
use lib.Dec.{leb, ltb}
use borrow.Author.Tests.{leb-true, le-leb, lt-leb, ltb-true, lt-ltb}
use Rattle.std.specs.Prelude.{Some, None}
use Rattle.lists.specs.Lists.{pick, count_below}
use Rattle.lists.proofs.Tests.{and_true, and_yes}
use Rattle.frames_rules.specs.Shared.{code_for}
use Rattle.frames_rules.specs.declared.answers.Interrogator.{Interrogator}
use Rattle.frames_rules.specs.declared.answers.Interrogator.TheVariants.{II, SI}
use Rattle.model_rules.specs.declared.state.Transponder.{Transponder}
use Rattle.model_rules.specs.Lockout.{locked_to}
use Rattle.model_rules.specs.Replies.{draws_below, free, answers_free, answers_code, answers}

-- how many of the 16 draws answer an all-call of a code with a PR
abbrev pub answering : ℕ → Interrogator → Transponder → ℕ
answering pr c t = count_below (λ draw. answers_free pr draw c t) 16

-- of the 16 draws exactly 16/2^p answer: PR 0 to 4, when the code is not locked
pub draws_of : (p : ℕ) (c : Interrogator) (t : Transponder) → p ≤ 4 → locked_to c t.timers ≡ false → answering p c t ≡ 16 / 2 ^ p
unfolding draws_below count_below
draws_of zero c t h e = rw e
draws_of (suc zero) c t h e = rw e
draws_of (suc (suc zero)) c t h e = rw e
draws_of (suc (suc (suc zero))) c t h e = rw e
draws_of (suc (suc (suc (suc zero)))) c t h e = rw e
draws_of (suc (suc (suc (suc (suc p))))) c t h e = absurd (omega arith)

-- none when it is locked
pub none_while_locked : (pr draw : ℕ) (c : Interrogator) (t : Transponder) → pr < 8 → locked_to c t.timers ≡ true → answers_free pr draw c t ≡ false
none_while_locked pr draw c t h e = rw (lt-leb 8 pr h, e)

-- PR 8 to 12 as PR 0 to 4, locked or not
pub draws_free : (p : ℕ) (c : Interrogator) (t : Transponder) → p ≤ 4 → answering (8 + p) c t ≡ 16 / 2 ^ p
unfolding draws_below count_below
draws_free zero c t h = refl
draws_free (suc zero) c t h = refl
draws_free (suc (suc zero)) c t h = refl
draws_free (suc (suc (suc zero))) c t h = refl
draws_free (suc (suc (suc (suc zero)))) c t h = refl
draws_free (suc (suc (suc (suc (suc p))))) c t h = absurd (omega arith)

-- another PR is answered by none
pub no_draw : (pr : ℕ) → 4 < pr → ((8 ≤ pr) → (pr ≤ 12) → ⊥) → draws_below pr ≡ 0
unfolding draws_below
no_draw pr h n = rw (lt-leb pr 4 h) (go (leb 8 pr) (leb pr 12) refl refl)
  where
    go : (a b : Bool) → leb 8 pr ≡ a → leb pr 12 ≡ b → pick (a && b) (16 / 2 ^ (pr - 8)) 0 ≡ 0
    go true true p q = absurd (n (leb-true 8 pr p) (leb-true pr 12 q))
    go true false p q = refl
    go false b p q = refl

-- ---- when an all-call of a code is answered: its lock, unless PR is 8 or more, and its draw
module _ (pr ic cl draw : ℕ) (t : Transponder) (c : Interrogator) (e : code_for cl ic ≡ Some c) where
  is : answers pr ic cl draw t ≡ answers_free pr draw c t
  unfolding answers
  is = ap (answers_code pr draw t) e

  pub answered_then : answers pr ic cl draw t ≡ true → (free pr c t ≡ true) × (draw < draws_below pr)
  answered_then h =
      let a = and_true (free pr c t) (ltb draw (draws_below pr)) (sym is ∙ h) in
      (a.0, ltb-true draw (draws_below pr) a.1)

  pub answered_when : free pr c t ≡ true → draw < draws_below pr → answers pr ic cl draw t ≡ true
  answered_when f d = is ∙ and_yes (free pr c t) (ltb draw (draws_below pr)) f (lt-ltb draw (draws_below pr) d)

-- an II's or an SI's all-call is answered exactly then
pub ii_answered : (pr ic cl draw n : ℕ) (t : Transponder) → code_for cl ic ≡ Some (II n) → answers pr ic cl draw t ≡ true
    → (free pr (II n) t ≡ true) × (draw < draws_below pr)
ii_answered pr ic cl draw n t e h = answered_then pr ic cl draw t (II n) e h

pub ii_answers : (pr ic cl draw n : ℕ) (t : Transponder) → code_for cl ic ≡ Some (II n) → free pr (II n) t ≡ true → draw < draws_below pr
    → answers pr ic cl draw t ≡ true
ii_answers pr ic cl draw n t e f d = answered_when pr ic cl draw t (II n) e f d

pub si_answered : (pr ic cl draw n : ℕ) (t : Transponder) → code_for cl ic ≡ Some (SI n) → answers pr ic cl draw t ≡ true
    → (free pr (SI n) t ≡ true) × (draw < draws_below pr)
si_answered pr ic cl draw n t e h = answered_then pr ic cl draw t (SI n) e h

pub si_answers : (pr ic cl draw n : ℕ) (t : Transponder) → code_for cl ic ≡ Some (SI n) → free pr (SI n) t ≡ true → draw < draws_below pr
    → answers pr ic cl draw t ≡ true
si_answers pr ic cl draw n t e f d = answered_when pr ic cl draw t (SI n) e f d

-- "SI 0 and CL 5 to 7 get no reply"
pub nobody_answered : (pr ic cl draw : ℕ) (t : Transponder) → code_for cl ic ≡ None → answers pr ic cl draw t ≡ false
unfolding answers
nobody_answered pr ic cl draw t e = rw e

-- PR 8 to 15 are free of lockout; below 8 the lock decides
pub free_of_lockout : (pr : ℕ) (c : Interrogator) (t : Transponder) → 8 ≤ pr → free pr c t ≡ true
free_of_lockout pr c t h = rw (le-leb 8 pr h)

pub lock_decides : (pr : ℕ) (c : Interrogator) (t : Transponder) → pr < 8 → free pr c t ≡ not (locked_to c t.timers)
lock_decides pr c t h = rw (lt-leb 8 pr h)
