-- The size of a signed number at 32 bits, as the code reckons it without leaving the range.
use Prim.Native.Nat.{ℕ, zero, suc, ◌+◌, ◌-◌, ◌^◌, ◌<◌}
use native.Mathlib.Omega.{arith}
use mathlib.Core.Path.{◌≡◌, refl, ap, ◌∙◌}
use mathlib.Core.Bool.{true, false, true≢false}
use lib.Dec.{T}
use lib.IntN.{ℤ, pos, negsuc, nat_abs, ◌+ℤ◌, ◌-ℤ◌}
use lib.Signed.{lt_z, non_neg}
use mir.Syntax.{w32}
use mir.Val.{Fits, SFits, to_z, of_z}
use mir.ValLaws.{to_z-of_z, to_z_pos}
use borrow.Author.Tests.{lt-ltb, ltb-true}
use Rattle.lists.proofs.Signed.{minus_fits}

-- one more than −1 − n
plus_one : (n : ℕ) → negsuc (suc n) +ℤ pos 1 ≡ negsuc n
plus_one n =
    let e : suc (suc n) - suc 1 ≡ n = omega arith in
    rw (lt-ltb 1 (suc (suc n)) (omega arith)) (ap negsuc e)

-- what is left of −1 − n, its sign turned: n
turned : (n : ℕ) → pos 0 -ℤ (negsuc n +ℤ pos 1) ≡ pos n
turned zero = refl
turned (suc n) =
    let e : 0 + suc n ≡ suc n = omega arith in
    ap (λ (z : ℤ). pos 0 -ℤ z) (plus_one n) ∙ ap pos e

plus_fits : (n : ℕ) → n < 2 ^ 31 → SFits w32 (negsuc n +ℤ pos 1)
plus_fits zero h = record { sfits = omega arith }
plus_fits (suc n) h = rw (plus_one n) (record { sfits = omega arith })

module _ (z : ℤ) (fits : SFits w32 z) where
  kept : to_z w32 (of_z w32 z) ≡ z
  kept = to_z-of_z w32 z fits

  -- a number that is below zero, and one that is not
  pub negative : lt_z (to_z w32 (of_z w32 z)) (pos 0) ≡ true → (n : ℕ) × (z ≡ negsuc n) × (n < 2 ^ 31)
  negative h = go z (rw kept at h) fits
    where
      go : (y : ℤ) → lt_z y (pos 0) ≡ true → SFits w32 y → (n : ℕ) × (y ≡ negsuc n) × (n < 2 ^ 31)
      go (pos n) e f = absurd (omega (arith, ltb-true n 0 e))
      go (negsuc n) e f = (n, refl, f.sfits)

  pub positive : lt_z (to_z w32 (of_z w32 z)) (pos 0) ≡ false → (n : ℕ) × (z ≡ pos n) × (n < 2 ^ 31)
  positive h = go z (rw kept at h) fits
    where
      go : (y : ℤ) → lt_z y (pos 0) ≡ false → SFits w32 y → (n : ℕ) × (y ≡ pos n) × (n < 2 ^ 31)
      go (pos n) e f = (n, refl, f.sfits)
      go (negsuc n) e f = absurd (true≢false e)

  module _ (n : ℕ) (e : z ≡ negsuc n) (h : n < 2 ^ 31) where
    read : to_z w32 (of_z w32 z) ≡ negsuc n
    read = kept ∙ e

    pub plus_holds : SFits w32 (to_z w32 (of_z w32 z) +ℤ pos 1)
    plus_holds = rw read (plus_fits n h)

    less : pos 0 -ℤ to_z w32 (of_z w32 (to_z w32 (of_z w32 z) +ℤ pos 1)) ≡ pos n
    less =
        ap (λ (y : ℤ). pos 0 -ℤ y) (to_z-of_z w32 (to_z w32 (of_z w32 z) +ℤ pos 1) plus_holds ∙ ap (λ (y : ℤ). y +ℤ pos 1) read)
        ∙ turned n

    pub less_holds : SFits w32 (pos 0 -ℤ to_z w32 (of_z w32 (to_z w32 (of_z w32 z) +ℤ pos 1)))
    less_holds = rw less (record { sfits = h })

    pub less_is : to_z w32 (of_z w32 (pos 0 -ℤ to_z w32 (of_z w32 (to_z w32 (of_z w32 z) +ℤ pos 1)))) ≡ pos n
    less_is = to_z-of_z w32 (pos 0 -ℤ to_z w32 (of_z w32 (to_z w32 (of_z w32 z) +ℤ pos 1))) less_holds ∙ less

-- a signed number that is n becomes n
pub unsigned : (y : ℤ) (n : ℕ) → y ≡ pos n → n < 2 ^ 31 → T (non_neg y) × Fits w32 (nat_abs y)
unsigned y n e h = rw e (tt, record { fits = omega arith })

-- ---- 0 − m − 1, reckoned one after the other

both_minus : (m : ℕ) → (pos 0 -ℤ pos m) -ℤ pos 1 ≡ negsuc m
both_minus zero = refl
both_minus (suc m) =
    let z : suc (suc m - 1 + 0) ≡ suc m = omega arith in
    rw (lt-ltb 0 (suc m) (omega arith)) (ap negsuc z)

module _ (m : ℕ) (h : m < 2 ^ 31) where
  pub turned_fits : SFits w32 (pos 0 -ℤ to_z w32 m)
  turned_fits = minus_fits 0 m (omega arith) h

  turned_is : to_z w32 (of_z w32 (pos 0 -ℤ to_z w32 m)) ≡ pos 0 -ℤ pos m
  turned_is = to_z-of_z w32 (pos 0 -ℤ to_z w32 m) turned_fits ∙ ap (λ (z : ℤ). pos 0 -ℤ z) (to_z_pos w32 m h)

  as_read : to_z w32 (of_z w32 (pos 0 -ℤ to_z w32 m)) -ℤ pos 1 ≡ negsuc m
  as_read = ap (λ (z : ℤ). z -ℤ pos 1) turned_is ∙ both_minus m

  pub below_fits : SFits w32 (to_z w32 (of_z w32 (pos 0 -ℤ to_z w32 m)) -ℤ pos 1)
  below_fits = rw as_read (record { sfits = h })

  pub below_is : to_z w32 (of_z w32 (to_z w32 (of_z w32 (pos 0 -ℤ to_z w32 m)) -ℤ pos 1)) ≡ negsuc m
  below_is = to_z-of_z w32 (to_z w32 (of_z w32 (pos 0 -ℤ to_z w32 m)) -ℤ pos 1) below_fits ∙ as_read
