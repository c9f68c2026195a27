-- What a code says, test by test in the definition's order; that it is answered in one way, with document 01's numbers.
use Prim.Native.Nat.{ℕ, ◌≤◌, ◌<◌}
use mathlib.Core.Path.{◌≡◌, refl, sym, ap, ◌∙◌}
use mathlib.Core.Bool.{Bool, true, false, false≢true}
use lib.Dec.{eqb, ltb}
use lib.ListN.{length, get_or}
use lib.IntN.{ℤ, pos}
use Rattle.lists.specs.Lists.{pick}
use Rattle.lists.specs.Checks.{checked, given}
use Rattle.lists.specs.Answers as lists
use Rattle.lists.specs.Answers.{refused_by}
use Rattle.lists.proofs.Checks.{view}
use Rattle.altitude_rules.specs.WayBack.{way_back_checks, way_back, written_said}
use Rattle.std.specs.Prelude.{Result, Ok, Err}
use Rattle.refusals.specs.declared.refusal.Refusal.{Refusal}
use Rattle.refusals.specs.declared.refusal.Refusal.TheVariants as refusal
use Rattle.refusals.specs.Refusals.{number_of, number_given}
use Rattle.refusals.proofs.Numbers.{not_done, same_number}
use borrow.Author.Tests.{lt-ltb, le-ltb, eq-eqb, ne_eqb}
use Rattle.altitude_rules.specs.Code.{M, Q, group, feet_by_25, feet_by_100, Form, all_zero, metric, by25, by100, illegal, form_of, read_as, altitude}
use Rattle.altitude_rules.specs.Code.{Answer, altitude_said, altitude_told, is_illegal, code_checks}
use Rattle.altitude_rules.specs.declared.code.Altitude.{Altitude}
use Rattle.altitude_rules.specs.declared.code.Altitude.TheVariants.{Feet, None, Metric}

module _ (ac : ℕ) where
  pub says_range : 8191 < ac → Err refusal.Range ≡ altitude ac
  unfolding altitude
  says_range h = rw (lt-ltb 8191 ac h)

  module _ (h : ac ≤ 8191) where
    pub says_none : ac ≡ 0 → Ok None ≡ altitude ac
    unfolding altitude form_of
    says_none z = rw (le-ltb 8191 ac h, eq-eqb ac 0 z)

    module _ (z : ac ≡ 0 → ⊥) where
      pub says_metric : M ac ≡ 1 → Ok Metric ≡ altitude ac
      unfolding altitude form_of
      says_metric m = rw (le-ltb 8191 ac h, ne_eqb ac 0 z, eq-eqb (M ac) 1 m)

      module _ (m : M ac ≡ 1 → ⊥) where
        pub says_by25 : Q ac ≡ 1 → Ok (Feet (feet_by_25 ac)) ≡ altitude ac
        unfolding altitude form_of
        says_by25 q = rw (le-ltb 8191 ac h, ne_eqb ac 0 z, ne_eqb (M ac) 1 m, eq-eqb (Q ac) 1 q)

        module _ (q : Q ac ≡ 1 → ⊥) where
          pub says_illegal : group ac ≡ 0 → Err refusal.Illegal ≡ altitude ac
          unfolding altitude form_of
          says_illegal g = rw (le-ltb 8191 ac h, ne_eqb ac 0 z, ne_eqb (M ac) 1 m, ne_eqb (Q ac) 1 q, eq-eqb (group ac) 0 g)

          pub says_by100 : (group ac ≡ 0 → ⊥) → Ok (Feet (feet_by_100 ac)) ≡ altitude ac
          unfolding altitude form_of
          says_by100 g = rw (le-ltb 8191 ac h, ne_eqb ac 0 z, ne_eqb (M ac) 1 m, ne_eqb (Q ac) 1 q, ne_eqb (group ac) 0 g)

-- ---- answers that say the same are the same
-- 0 is no refusal's number
no_refusal : (r : Refusal) → 0 ≡ number_of r → ⊥
no_refusal r e = absurd (false≢true (sym (not_done r) ∙ ap (λ (n : ℕ). eqb n 0) (sym e)))

-- the case that the feet and the name tell
altitude_by : Answer → Altitude
altitude_by a = pick (eqb (length a.feet) 1) (Feet (get_or a.feet 0 (pos 0))) (pick (eqb (get_or a.named 0 0) 0) None Metric)

altitude_back : (a : Altitude) → altitude_by (altitude_said (Ok a)) ≡ a
unfolding altitude_by
altitude_back (Feet z) = refl
altitude_back None = refl
altitude_back Metric = refl

pub altitude_one : (a b : Result Altitude Refusal) → altitude_said a ≡ altitude_said b → a ≡ b
altitude_one (Ok a) (Ok b) e = ap Ok (sym (altitude_back a) ∙ ap altitude_by e ∙ altitude_back b)
altitude_one (Ok a) (Err r) e = absurd (no_refusal r (ap (λ (x : Answer). x.number) e))
altitude_one (Err r) (Ok a) e = absurd (no_refusal r (ap (λ (x : Answer). x.number) (sym e)))
altitude_one (Err r) (Err s) e = ap Err (same_number r s (ap (λ (x : Answer). x.number) e))

pub altitude_is : (ac : ℕ) (x : Result Altitude Refusal) → altitude_said x ≡ altitude_told ac → x ≡ altitude ac
unfolding altitude_told
altitude_is ac x e = altitude_one x (altitude ac) e

pub altitude_told_is : (ac : ℕ) (x : Result Altitude Refusal) → x ≡ altitude ac → altitude_said x ≡ altitude_told ac
unfolding altitude_told
altitude_told_is ac x e = ap altitude_said e

-- ---- so of the way back

pub written_one : (v w : Result ℕ Refusal) → written_said v ≡ written_said w → v ≡ w
written_one (Ok a) (Ok b) e = ap (λ (x : lists.Answer). Ok (get_or x.values 0 0)) e
written_one (Ok a) (Err r) e = absurd (no_refusal r (ap (λ (x : lists.Answer). x.number) e))
written_one (Err r) (Ok a) e = absurd (no_refusal r (ap (λ (x : lists.Answer). x.number) (sym e)))
written_one (Err r) (Err s) e = ap Err (same_number r s (ap (λ (x : lists.Answer). x.number) e))

-- 19 exactly when the table says
pub number_of_feet : (feet : ℤ) → (way_back feet).number ≡ given (way_back_checks feet)
unfolding way_back
number_of_feet feet = view (λ (a : lists.Answer). a.number) (way_back_checks feet) refused_by _

-- ---- 2 and 18 exactly when the table says
number_by : (b : Bool) (f : Form) (ac : ℕ) → number_given (pick b (Err refusal.Range) (read_as f ac)) ≡ pick b 2 (pick (is_illegal f) 18 0)
number_by true f ac = refl
number_by false all_zero ac = refl
number_by false metric ac = refl
number_by false by25 ac = refl
number_by false by100 ac = refl
number_by false illegal ac = refl

pub number_of_code : (ac : ℕ) → (altitude_told ac).number ≡ given (code_checks ac)
unfolding altitude_told altitude checked
number_of_code ac = number_by (ltb 8191 ac) (form_of ac) ac
