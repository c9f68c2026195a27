-- A frame laid into a buffer: what the stores leave there.
use mathlib.Core.Path.{◌≡◌, refl, sym, ap, ap₂, ◌∙◌}
use mathlib.Core.Bool.{true}
use mathlib.Core.List.{List, [], ◌++◌, append-nil}
use mathlib.Core.Logic.{◌⊎◌, inl, inr}
use Prim.Native.Nat.{ℕ, ◌+◌, ◌-◌, ◌≤◌}
use native.Mathlib.Omega.{arith}
use lib.Bits.{bit_xor}
use lib.Dec.{eqb}
use lib.ListN.{length, take, drop, drop_of_length-le, length-append, length-drop}
use lib.Seq.{sets, sets-eq, length-sets, take_at, drop-drop, length-take-le}
use borrow.Author.Tests.{eqb-true}
use Rattle.lists.proofs.Tests.{or_true}
use Rattle.parity_rules.specs.Messages.{bits, seven_or_fourteen}
use Rattle.parity_rules.specs.Division.{remainder_of}
use Rattle.frames_rules.specs.Bytes.{bytes_of}
use Rattle.frames_rules.specs.Frames.{front, sealed, framed}

-- ---- the two lengths
pub seven_or_fourteen_is : (n : ℕ) → seven_or_fourteen n ≡ true → (n ≡ 7) ⊎ (n ≡ 14)
seven_or_fourteen_is n h = go (or_true (eqb n 7) (eqb n 14) h)
  where
    go : (eqb n 7 ≡ true) ⊎ (eqb n 14 ≡ true) → (n ≡ 7) ⊎ (n ≡ 14)
    go (inl e) = inl (eqb-true n 7 e)
    go (inr e) = inr (eqb-true n 14 e)

pub at_least_seven : (n : ℕ) → seven_or_fourteen n ≡ true → 7 ≤ n
at_least_seven n h = go (seven_or_fourteen_is n h)
  where
    go : (n ≡ 7) ⊎ (n ≡ 14) → 7 ≤ n
    go (inl e) = omega arith
    go (inr e) = omega arith

-- ---- all but the parity
pub front_length : (n head mid : ℕ) → seven_or_fourteen n ≡ true → length (front n head mid) ≡ n - 3
unfolding front
front_length n head mid h = go (seven_or_fourteen_is n h)
  where
    go : (n ≡ 7) ⊎ (n ≡ 14) → length (front n head mid) ≡ n - 3
    go (inl e) = rw e
    go (inr e) = rw e

module _ (s : List ℕ) (head mid : ℕ) where
  -- the first four bytes are stored
  headed : 7 ≤ length s → sets s 0 (bytes_of 4 head) ≡ bytes_of 4 head ++ drop 4 s
  headed h = sets-eq (bytes_of 4 head) s 0 (omega arith)

  pub fill_short : seven_or_fourteen (length s) ≡ true → (length s ≡ 14 → ⊥) → sets s 0 (bytes_of 4 head) ≡ front (length s) head mid ++ drop (length s - 3) s
  unfolding front
  fill_short h l = go (seven_or_fourteen_is (length s) h)
    where
      go : (length s ≡ 7) ⊎ (length s ≡ 14) → sets s 0 (bytes_of 4 head) ≡ front (length s) head mid ++ drop (length s - 3) s
      go (inl e) = rw e (headed (omega arith))
      go (inr e) = absurd (l e)

  pub fill_long : length s ≡ 14 → sets (sets s 0 (bytes_of 4 head)) 4 (bytes_of 7 mid) ≡ front (length s) head mid ++ drop (length s - 3) s
  unfolding front
  fill_long e =
      let d = headed (omega arith) in
      ap (λ (l : List ℕ). sets l 4 (bytes_of 7 mid)) d
      ∙ sets-eq (bytes_of 7 mid) (bytes_of 4 head ++ drop 4 s) 4 (omega (arith, length-append (bytes_of 4 head) (drop 4 s), length-drop 4 s))
      ∙ ap (λ (l : List ℕ). bytes_of 4 head ++ bytes_of 7 mid ++ l) (drop-drop 7 4 s)
      ∙ rw e

-- ---- the parity
end_is : (s t : List ℕ) → 7 ≤ length s → length t ≡ 3 → sets s (length s - 3) t ≡ take (length s - 3) s ++ t
end_is s t h e =
    let d : drop (length s - 3 + length t) s ≡ [] = drop_of_length-le s {i = length s - 3 + length t} (omega arith) in
    sets-eq t s (length s - 3) (omega arith) ∙ ap (λ (l : List ℕ). take (length s - 3) s ++ t ++ l) d ∙ append-nil (take (length s - 3) s ++ t)

pub seal_law : (s one two : List ℕ) (r overlay : ℕ) → 7 ≤ length s
    → one ≡ sets s (length s - 3) (bytes_of 3 0) → r ≡ remainder_of (bits one) → two ≡ sets one (length s - 3) (bytes_of 3 (bit_xor r overlay))
    → two ≡ sealed (take (length s - 3) s) overlay
unfolding sealed
seal_law s one two r overlay h e q f =
    let a : one ≡ take (length s - 3) s ++ bytes_of 3 0 = e ∙ end_is s (bytes_of 3 0) h refl in
    let n : length one ≡ length s = ap length e ∙ length-sets s (length s - 3) (bytes_of 3 0) in
    let t : take (length s - 3) one ≡ take (length s - 3) s =
    ap (take (length s - 3)) a ∙ take_at (take (length s - 3) s) (bytes_of 3 0) (length s - 3) (length-take-le (length s - 3) s (omega arith)) in
    f
    ∙ ap (λ (k : ℕ). sets one (k - 3) (bytes_of 3 (bit_xor r overlay))) (sym n)
    ∙ end_is one (bytes_of 3 (bit_xor r overlay)) (omega arith) refl
    ∙ ap (λ (k : ℕ). take (k - 3) one ++ bytes_of 3 (bit_xor r overlay)) n
    ∙ ap₂ (λ (l : List ℕ) (k : ℕ). l ++ bytes_of 3 (bit_xor k overlay)) t (q ∙ ap (λ (l : List ℕ). remainder_of (bits l)) a)

-- ---- the whole frame
module _ (s : List ℕ) (head mid : ℕ) (one : List ℕ) (h : seven_or_fourteen (length s) ≡ true)
    (e : one ≡ front (length s) head mid ++ drop (length s - 3) s) where
  pub filled_length : length one ≡ length s
  filled_length =
      omega (
        arith,
        ap length e,
        length-append (front (length s) head mid) (drop (length s - 3) s),
        front_length (length s) head mid h,
        length-drop (length s - 3) s,
        at_least_seven (length s) h,
      )

  pub write_law : (two : List ℕ) (overlay : ℕ) → two ≡ sealed (take (length one - 3) one) overlay → two ≡ framed (length s) head mid overlay
  write_law two overlay f =
      f
      ∙ ap (λ (l : List ℕ). sealed l overlay)
      (ap₂ (λ (k : ℕ) (l : List ℕ). take (k - 3) l) filled_length e
      ∙ take_at (front (length s) head mid) (drop (length s - 3) s) (length s - 3) (front_length (length s) head mid h))
