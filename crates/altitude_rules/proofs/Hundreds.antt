-- The 100 ft code and its hundreds: every hundred has one code, and neighbours differ in one bit.
use Prim.Native.Nat.{ℕ, suc, ◌+◌, ◌-◌, ◌*◌, ◌<◌}
use native.Mathlib.Omega.{arith}
use mathlib.Core.Path.{◌≡◌, refl, sym, ap, ◌∙◌}
use mathlib.Core.Bool.{Bool, true, ◌&&◌}
use lib.Dec.{eqb, ltb}
use lib.IntN.{sub_ℕ}
use Rattle.lists.proofs.Tests.{and_true}
use Rattle.lists.proofs.Signed.{same_difference, difference_same}
use borrow.Author.Tests.{eqb-true, ltb-true}
use Rattle.lists.specs.Lists.{pick, every, count_below}
use Rattle.lists.proofs.Every.{every_at, equal_below, less_below}
use Rattle.altitude_rules.specs.Code.{form_of, group, hundreds, five_hundreds, eight, gray_value, feet_by_100}
use Rattle.altitude_rules.specs.Code.Form.{by100}
use Rattle.altitude_rules.specs.WayBack.{code_of_bits, code_by_100}
use Rattle.altitude_rules.specs.Claims.{nth, differing, Says, HundredFootCode}
use Rattle.altitude_rules.proofs.Forms.{form_by_is}

-- the hundreds above −1200, and one
abbrev pub above : ℕ → ℕ
above ac = 5 * five_hundreds ac + hundreds (five_hundreds ac) (group ac)

-- ---- computed over all of them

pub code_lt : (k : ℕ) → k < 1280 → code_by_100 k < 8192
unfolding every code_of_bits code_by_100 hundreds
code_lt k h = less_below code_by_100 8192 1280 refl k h

code_form : (k : ℕ) → k < 1280 → nth (form_of (code_by_100 k)) ≡ 3
unfolding every code_of_bits code_by_100 hundreds form_of group
code_form k h = equal_below (λ x. nth (form_of (code_by_100 x))) (λ x. 3) 1280 refl k h

pub hundred_form : (k : ℕ) → k < 1280 → form_of (code_by_100 k) ≡ by100
hundred_form k h = form_by_is (form_of (code_by_100 k)) 3 (code_form k h)

pub code_above : (k : ℕ) → k < 1280 → above (code_by_100 k) ≡ k + 1
unfolding every code_of_bits code_by_100 hundreds group five_hundreds eight gray_value
code_above k h = equal_below (λ x. above (code_by_100 x)) (λ x. x + 1) 1280 refl k h

code_next : (k : ℕ) → k < 1279 → differing (code_by_100 k) (code_by_100 (suc k)) ≡ 1
unfolding every count_below code_of_bits code_by_100 hundreds differing
code_next k h = equal_below (λ x. differing (code_by_100 x) (code_by_100 (suc x))) (λ x. 1) 1279 refl k h

-- what is tried of a code of the 100 ft form: its hundred is in reach, and that hundred's code is the code
abbrev back : ℕ → Bool
back ac = pick (eqb (nth (form_of ac)) 3) (eqb (code_by_100 (above ac - 1)) ac && (ltb 0 (above ac) && ltb (above ac) 1281)) true

all_back : (ac : ℕ) → ac < 8192 → back ac ≡ true
unfolding every code_of_bits code_by_100 hundreds form_of group five_hundreds eight gray_value
all_back ac h = every_at back 8192 ac refl h

-- ---- from the tests to the claims

-- a code of the 100 ft form is that of its hundred
module _ (ac : ℕ) (h : ac < 8192) (f : form_of ac ≡ by100) where
  tried : (eqb (code_by_100 (above ac - 1)) ac && (ltb 0 (above ac) && ltb (above ac) 1281)) ≡ true
  tried = rw (f) at (all_back ac h)

  pub its_code : code_by_100 (above ac - 1) ≡ ac
  its_code = eqb-true (code_by_100 (above ac - 1)) ac (and_true (eqb (code_by_100 (above ac - 1)) ac) (ltb 0 (above ac) && ltb (above ac) 1281) tried).0

  pub in_reach : (0 < above ac) × (above ac < 1281)
  in_reach =
      let t = and_true (ltb 0 (above ac)) (ltb (above ac) 1281)
      (and_true (eqb (code_by_100 (above ac - 1)) ac) (ltb 0 (above ac) && ltb (above ac) 1281) tried).1 in
      (ltb-true 0 (above ac) t.0, ltb-true (above ac) 1281 t.1)

pub feet_is : (ac : ℕ) → feet_by_100 ac ≡ sub_ℕ (100 * above ac) 1300
unfolding feet_by_100
feet_is ac = same_difference (500 * five_hundreds ac + 100 * hundreds (five_hundreds ac) (group ac)) (100 * above ac) 1300 1300 (omega arith)

-- what a code says fixes its hundred
says_above : (ac k : ℕ) → Says ac k → above ac ≡ k + 1
says_above ac k s =
    let e = difference_same (100 * above ac) (100 * k) 1300 1200 (sym (feet_is ac) ∙ s.feet) in
    omega arith

says_code : (ac k : ℕ) → Says ac k → (code_by_100 k ≡ ac) × (k < 1280)
says_code ac k s =
    let a = says_above ac k s in
    let i : above ac - 1 ≡ k = omega arith in
    (sym (ap code_by_100 i) ∙ its_code ac s.short s.form, omega (arith, (in_reach ac s.short s.form).1))

above_says : (ac k : ℕ) → ac < 8192 → form_of ac ≡ by100 → above ac ≡ k + 1 → Says ac k
above_says ac k h f a =
    record { short = h; form = f; feet = feet_is ac ∙ same_difference (100 * above ac) (100 * k) 1300 1200 (omega arith) }

pub hundred_foot_code : HundredFootCode
hundred_foot_code =
    record {
      each = λ k h. (code_by_100 k, above_says (code_by_100 k) k (code_lt k h) (hundred_form k h) (code_above k h));
      once = λ a b k s t. sym (says_code a k s).0 ∙ (says_code b k t).0;
      none_else = λ ac h f. let r = in_reach ac h f in (above ac - 1, omega (arith, r.0, r.1), above_says ac (above ac - 1) h f (omega (arith, r.0)));
      one_bit = λ a b k s t. let i = (says_code b (suc k) t).1 in rw (← (says_code a k s).0, ← (says_code b (suc k) t).0) (code_next k (omega arith));
    }
