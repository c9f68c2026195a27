-- The difference of two numbers with its sign, as a signed subtraction at 32 bits reckons it.
use Prim.Native.Nat.{ℕ, zero, suc, ◌-◌, ◌+◌, ◌^◌, ◌≤◌, ◌<◌}
use native.Mathlib.Omega.{arith}
use mathlib.Core.Path.{◌≡◌, refl, sym, ap, ap₂, ◌∙◌}
use mathlib.Core.Bool.{Bool, true, false}
use lib.Dec.{ltb, le→leb}
use lib.IntN.{ℤ, pos, negsuc, sub_ℕ, ◌-ℤ◌}
use lib.Signed.{mag, ◌≤ℤ◌, le_z_yes}
use mir.Syntax.{w32}
use mir.Val.{SFits, to_z, of_z}
use mir.ValLaws.{to_z-of_z, to_z_pos}
use borrow.Author.Tests.{lt-ltb, le-ltb, ltb-true, ltb-false}

pub sub_nothing : (a : ℕ) → sub_ℕ a 0 ≡ pos a
sub_nothing a =
    let z : a - 0 ≡ a = omega arith in
    rw (le-ltb a 0 (omega arith)) (ap pos z)

pub minus : (a b : ℕ) → pos a -ℤ pos b ≡ sub_ℕ a b
minus a zero =
    let z : a + 0 ≡ a = omega arith in
    ap pos z ∙ sym (sub_nothing a)
minus a (suc b) = refl

small : (a b m : ℕ) → a < m → b < m → mag (sub_ℕ a b) < m
small a b m ha hb = go (ltb a b) refl
  where
    go : (t : Bool) → ltb a b ≡ t → mag (sub_ℕ a b) < m
    go true e = rw e (omega arith)
    go false e = rw e (omega arith)

module _ (a b : ℕ) (ha : a < 2 ^ 31) (hb : b < 2 ^ 31) where
  as_read : to_z w32 a -ℤ to_z w32 b ≡ sub_ℕ a b
  as_read = ap₂ ◌-ℤ◌ (to_z_pos w32 a ha) (to_z_pos w32 b hb) ∙ minus a b

  pub minus_holds : SFits w32 (sub_ℕ a b)
  minus_holds = record { sfits = small a b (2 ^ 31) ha hb }

  pub minus_fits : SFits w32 (to_z w32 a -ℤ to_z w32 b)
  minus_fits = rw as_read minus_holds

  pub minus_is : to_z w32 (of_z w32 (to_z w32 a -ℤ to_z w32 b)) ≡ sub_ℕ a b
  minus_is = to_z-of_z w32 (to_z w32 a -ℤ to_z w32 b) minus_fits ∙ as_read

  -- a signed result that was kept in a local is read back as it was
  pub minus_kept : (z : ℤ) → z ≡ sub_ℕ a b → to_z w32 (of_z w32 z) ≡ sub_ℕ a b
  minus_kept z e = rw e (to_z-of_z w32 (sub_ℕ a b) minus_holds)

-- ---- a − m is b − n where a + n is b + m, and only there

pub same_difference : (a b m n : ℕ) → a + n ≡ b + m → sub_ℕ a m ≡ sub_ℕ b n
same_difference a b m n e = go (ltb a m) refl
  where
    go : (t : Bool) → ltb a m ≡ t → sub_ℕ a m ≡ sub_ℕ b n
    go true h =
        let l = ltb-true a m h in
        let z : m - suc a ≡ n - suc b = omega arith in
        rw (h, lt-ltb b n (omega arith)) (ap negsuc z)
    go false h =
        let l = ltb-false a m h in
        let z : a - m ≡ b - n = omega arith in
        rw (h, le-ltb b n (omega arith)) (ap pos z)

pub difference_same : (a b m n : ℕ) → sub_ℕ a m ≡ sub_ℕ b n → a + n ≡ b + m
difference_same a b m n e = go (ltb a m) (ltb b n) refl refl
  where
    go : (s t : Bool) → ltb a m ≡ s → ltb b n ≡ t → a + n ≡ b + m
    go true true h k =
        let l = ltb-true a m h in
        let r = ltb-true b n k in
        let f : negsuc (m - suc a) ≡ negsuc (n - suc b) = rw (h, k) at e in
        let z : m - suc a ≡ n - suc b = cc in
        omega arith
    go true false h k =
        let f : negsuc (m - suc a) ≡ pos (b - n) = rw (h, k) at e in
        let z : ◌≡◌ {A = ℕ} 0 1 = cc in
        absurd (omega arith)
    go false true h k =
        let f : pos (a - m) ≡ negsuc (n - suc b) = rw (h, k) at e in
        let z : ◌≡◌ {A = ℕ} 0 1 = cc in
        absurd (omega arith)
    go false false h k =
        let l = ltb-false a m h in
        let r = ltb-false b n k in
        let f : pos (a - m) ≡ pos (b - n) = rw (h, k) at e in
        let z : a - m ≡ b - n = cc in
        omega arith

-- ---- and a − m is at most b − n where a + n is at most b + m

pub difference_le : (a b m n : ℕ) → a + n ≤ b + m → sub_ℕ a m ≤ℤ sub_ℕ b n
difference_le a b m n e = go (ltb a m) (ltb b n) refl refl
  where
    go : (s t : Bool) → ltb a m ≡ s → ltb b n ≡ t → sub_ℕ a m ≤ℤ sub_ℕ b n
    go true true h k =
        let l = ltb-true a m h in
        let r = ltb-true b n k in
        rw (h, k) (le_z_yes (le→leb (n - suc b) (m - suc a) (omega arith)))
    go true false h k = rw (h, k) (le_z_yes tt)
    go false true h k =
        let l = ltb-false a m h in
        let r = ltb-true b n k in
        absurd (omega arith)
    go false false h k =
        let l = ltb-false a m h in
        let r = ltb-false b n k in
        rw (h, k) (le_z_yes (le→leb (a - m) (b - n) (omega arith)))
