-- The uplink overlay can be undone: each number of 24 bits is the overlay of one number of 24 bits, and of one only.
use mathlib.Core.Path.{◌≡◌, refl, sym, ap, ap₂, ◌∙◌, subst}
use mathlib.Core.Bool.{Bool, true, false}
use mathlib.Core.List.{List, [], ◌∷◌}
use Prim.Native.Nat.{ℕ, zero, suc, ◌+◌, ◌*◌, ◌/◌, ◌%◌, ◌^◌, ◌<◌, ◌≤◌}
use native.Mathlib.Nat.{pow-suc, add-mul, mul_assoc, add_assoc}
use native.Mathlib.Omega.{arith}
use lib.Arith.{digits_lt, digits_mod}
use lib.Bits.{bit_xor, xor_shr, xor_self, xor_zero_r}
use lib.Dec.{ltb}
use lib.ListN.{length}
use lib.Pow.{high}
use borrow.Author.Tests.{ltb-true, ltb-false, lt-ltb, le-ltb}
use Rattle.std.specs.Prelude.{Option, Some, None}
use Rattle.lists.proofs.Xor.{xor_swap, xor_move}
use Rattle.parity_rules.specs.Messages.{AreBits}
use Rattle.lists.specs.Lists.{spelled, All}
use Rattle.parity_rules.specs.Division.{generator, shift_in}
use Rattle.parity_rules.specs.Overlays.{low_bits, times, overlay_of}
use Rattle.parity_rules.proofs.Uplink.{double_xor, overlay_one}
use Rattle.parity_rules.proofs.Laws.{overlay_lt}
use Rattle.frames_rules.specs.Addresses.{quotient_bits, quotient_of, address_of}
use Rattle.frames_rules.proofs.Quotient.{step_is, step_lt}

-- ---- bits and the number that they spell
twice : (n : ℕ) → 2 ^ suc n ≡ 2 * 2 ^ n
twice n = omega (arith, pow-suc 2 n)

grown : (a d k m : ℕ) → (a * 2 + d) * k + m ≡ a * (2 * k) + (d * k + m)
grown a d k m = ap (λ (x : ℕ). x + m) (add-mul (a * 2) d k ∙ ap (λ (x : ℕ). x + d * k) (mul_assoc a 2 k)) ∙ add_assoc (a * (2 * k)) (d * k) m

spelled_split : (bs : List ℕ) (r : ℕ) → spelled r bs ≡ r * 2 ^ length bs + spelled 0 bs
spelled_split [] r = omega arith
spelled_split (b ∷ bs) r =
    spelled_split bs (r * 2 + b)
    ∙ grown r b (2 ^ length bs) (spelled 0 bs)
    ∙ sym (ap₂ (λ (x y : ℕ). r * x + y) (twice (length bs)) (ap (λ (k : ℕ). spelled k bs) (none_before b) ∙ spelled_split bs b))
  where
    none_before : (y : ℕ) → 0 * 2 + y ≡ y
    none_before y = omega arith

spelled_lt : (bs : List ℕ) → AreBits bs → spelled 0 bs < 2 ^ length bs
unfolding All
spelled_lt [] h = omega arith
spelled_lt (b ∷ bs) h =
    let e : 0 * 2 + b ≡ b = omega arith in
    rw (e, twice (length bs), spelled_split bs b) (digits_lt {q = b} {m = 2} {r = spelled 0 bs} {c = 2 ^ length bs} h.0 (spelled_lt bs h.1))

-- the low bits of the number that some bits spell are those bits
bits_back : (bs : List ℕ) → AreBits bs → (r : ℕ) → low_bits (length bs) (spelled r bs) ≡ bs
unfolding All low_bits
bits_back [] h r = refl
bits_back (b ∷ bs) h r =
    ap₂ (λ (x : ℕ) (l : List ℕ). x ∷ l)
    (ap (λ (k : ℕ). k / 2 ^ length bs % 2) (spelled_split bs (r * 2 + b))
    ∙ ap (λ (k : ℕ). k % 2) (high (r * 2 + b) (length bs) (spelled_lt bs h.1))
    ∙ digits_mod r h.0)
    (bits_back bs h.1 (r * 2 + b))

-- ---- the product with the quotient, and what the division leaves, are the dividend
-- the steps' leavings: what is left of r after n of them
left_over : ℕ → ℕ → ℕ
left_over zero r = r
left_over (suc n) r = left_over n (shift_in r 0)

next_lt : (r : ℕ) → r < 16777216 → shift_in r 0 < 16777216
next_lt r h = subst (λ (k : ℕ). k < 16777216) (sym (step_is r h)) (step_lt r h)

left_lt : (n r : ℕ) → r < 16777216 → left_over n r < 16777216
unfolding left_over
left_lt zero r h = h
left_lt (suc n) r h = left_lt n (shift_in r 0) (next_lt r h)

quotient_are : (n r : ℕ) → r < 16777216 → AreBits (quotient_bits n r)
unfolding All quotient_bits
quotient_are zero r h = tt
quotient_are (suc n) r h = (omega arith, quotient_are n (shift_in r 0) (next_lt r h))

quotient_length : (n r : ℕ) → length (quotient_bits n r) ≡ n
unfolding quotient_bits
quotient_length zero r = refl
quotient_length (suc n) r = ap suc (quotient_length n (shift_in r 0))

cancel_both : (a b g : ℕ) → bit_xor (bit_xor a g) (bit_xor b g) ≡ bit_xor a b
cancel_both a b g = xor_swap a g b g ∙ ap (bit_xor (bit_xor a b)) (xor_self g) ∙ xor_zero_r (bit_xor a b)

dividend : (n p r : ℕ) → r < 16777216 → bit_xor (times p (quotient_bits n r)) (left_over n r) ≡ bit_xor p r * 2 ^ n
unfolding times quotient_bits left_over
dividend zero p r h = omega arith
dividend (suc n) p r h =
    let g = r / 8388608 * generator in
    dividend n (bit_xor (p * 2) g) (shift_in r 0) (next_lt r h)
    ∙ ap (λ (x : ℕ). x * 2 ^ n) (ap (bit_xor (bit_xor (p * 2) g)) (step_is r h) ∙ cancel_both (p * 2) (r * 2) g ∙ double_xor p r)
    ∙ mul_assoc (bit_xor p r) 2 (2 ^ n)
    ∙ ap (λ (x : ℕ). bit_xor p r * x) (sym (twice n))

-- ---- every number of 24 bits is the overlay of its quotient
module _ (r : ℕ) (h : r < 16777216) where
  pub quotient_lt : quotient_of r < 16777216
  unfolding quotient_of
  quotient_lt = rw (quotient_length 24 r) at (spelled_lt (quotient_bits 24 r) (quotient_are 24 r h))

  product : times 0 (quotient_bits 24 r) ≡ bit_xor (r * 16777216) (left_over 24 r)
  product = xor_move (times 0 (quotient_bits 24 r)) (left_over 24 r) (r * 16777216) (dividend 24 0 r h)

  low_bits_is : low_bits 24 (quotient_of r) ≡ quotient_bits 24 r
  unfolding quotient_of
  low_bits_is = rw (quotient_length 24 r) at (bits_back (quotient_bits 24 r) (quotient_are 24 r h) 0)

  pub overlay_quotient : overlay_of (quotient_of r) ≡ r
  unfolding overlay_of
  overlay_quotient =
      let l : left_over 24 r / 16777216 ≡ 0 = omega (arith, left_lt 24 r h) in
      let k : r * 16777216 / 16777216 ≡ r = omega arith in
      ap (λ (b : List ℕ). times 0 b / 16777216) low_bits_is
      ∙ ap (λ (x : ℕ). x / 16777216) product
      ∙ xor_shr (r * 16777216) (left_over 24 r) 24
      ∙ ap₂ bit_xor k l
      ∙ xor_zero_r r

-- ---- what `address_of` says
-- the number found is below 2^24 and has this overlay; where nobody is named, no number of 24 bits has it
abbrev pub Found : ℕ → Option ℕ → Type 0
Found r (Some a) = (a < 16777216) × (overlay_of a ≡ r)
Found r None = (a : ℕ) → a < 16777216 → overlay_of a ≡ r → ⊥

pub address_found : (r : ℕ) → Found r (address_of r)
unfolding address_of
address_found r = go (ltb r 16777216) refl
  where
    go : (t : Bool) → ltb r 16777216 ≡ t → Found r (address_of r)
    go true t = let h = ltb-true r 16777216 t in rw t (quotient_lt r h, overlay_quotient r h)
    go false t = let h = ltb-false r 16777216 t in rw t (λ a l e. omega (arith, overlay_lt a))

-- every remainder of 24 bits has one
pub address_every : (r : ℕ) → r < 16777216 → address_of r ≡ Some (quotient_of r)
unfolding address_of
address_every r h = rw (lt-ltb r 16777216 h)

-- and no greater one has
pub address_none : (r : ℕ) → 16777216 ≤ r → address_of r ≡ None
unfolding address_of
address_none r h = rw (le-ltb r 16777216 h)

-- and the address of a number's overlay is that number: from a built frame the address is found again
pub address_back : (a : ℕ) → a < 16777216 → address_of (overlay_of a) ≡ Some a
address_back a h =
    address_every (overlay_of a) (overlay_lt a)
    ∙ ap (λ (x : ℕ). Some x)
    (overlay_one (quotient_of (overlay_of a)) a (quotient_lt (overlay_of a) (overlay_lt a)) h (overlay_quotient (overlay_of a) (overlay_lt a)))

-- what is found is the only one
pub address_only : (r : ℕ) (x : Option ℕ) → Found r x → x ≡ address_of r
address_only r (Some a) f = sym (address_back a f.0) ∙ ap address_of f.1
address_only r None f = go (ltb r 16777216) refl
  where
    go : (t : Bool) → ltb r 16777216 ≡ t → None ≡ address_of r
    go true t = let h = ltb-true r 16777216 t in absurd (f (quotient_of r) (quotient_lt r h) (overlay_quotient r h))
    go false t = sym (address_none r (ltb-false r 16777216 t))
