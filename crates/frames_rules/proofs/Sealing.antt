-- A frame and its parts: what stands in a frame, and that a message is the frame of its own parts.
use mathlib.Core.Path.{◌≡◌, refl, sym, ap, ap₂, ◌∙◌}
use mathlib.Core.Bool.{Bool, true, false}
use mathlib.Core.List.{List, [], ◌∷◌, ◌++◌, append-nil}
use mathlib.Core.Logic.{◌⊎◌, inl, inr}
use Prim.Native.Nat.{ℕ, ◌+◌, ◌-◌, ◌*◌, ◌/◌, ◌%◌, ◌<◌, ◌≤◌}
use native.Mathlib.Omega.{arith}
use lib.Bits.{bit_xor, xor_lt}
use lib.Dec.{eqb}
use lib.ListN.{length, take, drop, take-append-drop, length-drop}
use lib.Seq.{length-take-le, take-add}
use borrow.Author.Tests.{eqb-true}
use Rattle.lists.specs.Lists.{pick, All}
use Rattle.lists.proofs.Xor.{xor_back}
use Rattle.lists.proofs.Held.{all_append, all_take, all_drop}
use Rattle.parity_rules.specs.Messages.{bits, seven_or_fourteen, AreBytes}
use Rattle.parity_rules.specs.Division.{remainder_of}
use Rattle.parity_rules.proofs.Laws.{parity_over, remainder_lt}
use Rattle.frames_rules.specs.Bytes.{bytes_of, number_of_bytes}
use Rattle.frames_rules.specs.Fields.{head_of, mid_of}
use Rattle.frames_rules.specs.Frames.{front, sealed, framed}
use Rattle.frames_rules.proofs.Laying.{seven_or_fourteen_is}
use Rattle.frames_rules.proofs.Numbers.{number_bytes, number_lt, bytes_number, bytes_are}

-- ---- the parity
three_sum : (v : ℕ) → v < 16777216 → v / 65536 % 256 * 65536 + v / 256 % 256 * 256 + v / 1 % 256 ≡ v
three_sum v h = omega arith

-- "its remainder is the overlay"
pub sealed_remainder : (s : List ℕ) (v : ℕ) → v < 16777216 → remainder_of (bits (sealed s v)) ≡ v
unfolding sealed
sealed_remainder s v h =
    let r = remainder_of (bits (s ++ bytes_of 3 0)) in
    let l : bit_xor r v < 16777216 = xor_lt 24 r v (remainder_lt (s ++ bytes_of 3 0)) h in
    let p = bit_xor r v in
    parity_over s (p / 65536 % 256) (p / 256 % 256) (p / 1 % 256) (omega arith) (omega arith) (omega arith)
    ∙ ap (bit_xor r) (three_sum p l)
    ∙ xor_back r v

cons3 : (a b c x y z : ℕ) → a ≡ x → b ≡ y → c ≡ z → ◌≡◌ {A = List ℕ} (a ∷ b ∷ c ∷ []) (x ∷ y ∷ z ∷ [])
cons3 a b c x y z e f g = cc

three_bytes : (a b c : ℕ) → a < 256 → b < 256 → c < 256 → bytes_of 3 (a * 65536 + b * 256 + c) ≡ a ∷ b ∷ c ∷ []
three_bytes a b c ha hb hc = cons3 _ _ _ a b c (omega arith) (omega arith) (omega arith)

-- bytes with three more are sealed by their own remainder
sealed_again : (s : List ℕ) (a b c : ℕ) → a < 256 → b < 256 → c < 256 → sealed s (remainder_of (bits (s ++ (a ∷ b ∷ c ∷ [])))) ≡ s ++ (a ∷ b ∷ c ∷ [])
unfolding sealed
sealed_again s a b c ha hb hc =
    let r = remainder_of (bits (s ++ bytes_of 3 0)) in
    ap (λ (v : ℕ). s ++ bytes_of 3 (bit_xor r v)) (parity_over s a b c ha hb hc)
    ∙ ap (λ (v : ℕ). s ++ bytes_of 3 v) (xor_back r (a * 65536 + b * 256 + c))
    ∙ ap (λ (t : List ℕ). s ++ t) (three_bytes a b c ha hb hc)

sealed_by : (s t : List ℕ) → AreBytes t → length t ≡ 3 → sealed s (remainder_of (bits (s ++ t))) ≡ s ++ t
unfolding All
sealed_by s [] h e = absurd (omega arith)
sealed_by s (a ∷ []) h e = absurd (omega arith)
sealed_by s (a ∷ b ∷ []) h e = absurd (omega arith)
sealed_by s (a ∷ b ∷ c ∷ []) h e = sealed_again s a b c h.0 h.1.0 h.1.1.0
sealed_by s (a ∷ b ∷ c ∷ d ∷ t) h e = absurd (omega arith)

-- ---- the parts of a frame
pub record Parts (n head mid overlay : ℕ) (m : List ℕ) : Type 0 where
  pub length_is : length m ≡ n
  pub head_is : head_of m ≡ head
  pub mid_is : mid_of m ≡ mid
  pub remainder_is : remainder_of (bits m) ≡ overlay

module _ (head mid overlay : ℕ) (hh : head < 4294967296) (hm : mid < 72057594037927936) (ho : overlay < 16777216) where
  short_parts : mid ≡ 0 → Parts 7 head mid overlay (framed 7 head mid overlay)
  unfolding front sealed head_of mid_of
  short_parts z =
      record { length_is = refl; head_is = number_bytes 4 head hh; mid_is = sym z; remainder_is = sealed_remainder (front 7 head mid) overlay ho }

  long_parts : Parts 14 head mid overlay (framed 14 head mid overlay)
  unfolding front sealed head_of mid_of
  long_parts =
      record
      { length_is = refl; head_is = number_bytes 4 head hh; mid_is = number_bytes 7 mid hm; remainder_is = sealed_remainder (front 14 head mid) overlay ho }

  pub frame_parts : (n : ℕ) → seven_or_fourteen n ≡ true → (n ≡ 14) ⊎ (mid ≡ 0) → Parts n head mid overlay (framed n head mid overlay)
  frame_parts n w z = go (seven_or_fourteen_is n w) z
    where
      go : (n ≡ 7) ⊎ (n ≡ 14) → (n ≡ 14) ⊎ (mid ≡ 0) → Parts n head mid overlay (framed n head mid overlay)
      go (inr e) y = rw e long_parts
      go (inl e) (inr y) = rw e (short_parts y)
      go (inl e) (inl y) = absurd (omega arith)

-- ---- a message is the frame of its own parts
part_bytes : (n : ℕ) (s : List ℕ) → n ≤ length s → AreBytes s → bytes_of n (number_of_bytes (take n s)) ≡ take n s
part_bytes n s l h = ap (λ (k : ℕ). bytes_of k (number_of_bytes (take n s))) (sym (length-take-le n s l))
    ∙ bytes_number (take n s) (all_take (λ b. b < 256) n s h)

module _ (m : List ℕ) (h : AreBytes m) where
  short_front : length m ≡ 7 → front (length m) (head_of m) (mid_of m) ≡ take (length m - 3) m
  unfolding front head_of mid_of
  short_front e = rw e (ap (λ (l : List ℕ). l ++ []) (part_bytes 4 m (omega arith) h) ∙ append-nil (take 4 m))

  long_front : length m ≡ 14 → front (length m) (head_of m) (mid_of m) ≡ take (length m - 3) m
  unfolding front head_of mid_of
  long_front e =
      rw e
      (ap₂ (λ (a b : List ℕ). a ++ b) (part_bytes 4 m (omega arith) h)
      (part_bytes 7 (drop 4 m) (omega (arith, length-drop 4 m)) (all_drop (λ b. b < 256) 4 m h))
      ∙ sym (take-add 4 7 m))

  module _ (w : seven_or_fourteen (length m) ≡ true) where
    pub same_front : front (length m) (head_of m) (mid_of m) ≡ take (length m - 3) m
    same_front = go (seven_or_fourteen_is (length m) w)
      where
        go : (length m ≡ 7) ⊎ (length m ≡ 14) → front (length m) (head_of m) (mid_of m) ≡ take (length m - 3) m
        go (inl e) = short_front e
        go (inr e) = long_front e

    pub same_frame : framed (length m) (head_of m) (mid_of m) (remainder_of (bits m)) ≡ m
    same_frame =
        let k = length m - 3 in
        let e : take k m ++ drop k m ≡ m = take-append-drop k m in
        let t : length (drop k m) ≡ 3 = go (seven_or_fourteen_is (length m) w) in
        ap (λ (l : List ℕ). sealed l (remainder_of (bits m))) same_front
        ∙ ap (λ (l : List ℕ). sealed (take k m) (remainder_of (bits l))) (sym e)
        ∙ sealed_by (take k m) (drop k m) (all_drop (λ b. b < 256) k m h) t
        ∙ e
      where
        go : (length m ≡ 7) ⊎ (length m ≡ 14) → length (drop (length m - 3) m) ≡ 3
        go (inl e) = omega (arith, length-drop (length m - 3) m)
        go (inr e) = omega (arith, length-drop (length m - 3) m)

  pub head_lt : 4 ≤ length m → head_of m < 4294967296
  unfolding head_of
  head_lt l = rw (length-take-le 4 m l) at (number_lt (take 4 m) (all_take (λ b. b < 256) 4 m h))

  pub mid_le : mid_of m ≤ 0xFFFFFFFFFFFFFF
  unfolding mid_of
  mid_le = go (eqb (length m) 14) refl
    where
      go : (b : Bool) → eqb (length m) 14 ≡ b → pick b (number_of_bytes (take 7 (drop 4 m))) 0 ≤ 0xFFFFFFFFFFFFFF
      go true e =
          let n = eqb-true (length m) 14 e in
          let l = length-drop 4 m in
          let bytes = all_take (λ b. b < 256) 7 (drop 4 m) (all_drop (λ b. b < 256) 4 m h) in
          let f = rw (length-take-le 7 (drop 4 m) (omega arith)) at (number_lt (take 7 (drop 4 m)) bytes) in
          omega (arith, f)
      go false e = omega arith

-- ---- a frame is bytes
pub frame_bytes : (n head mid overlay : ℕ) → AreBytes (framed n head mid overlay)
unfolding All front sealed
frame_bytes n head mid overlay =
    all_append (λ b. b < 256) (bytes_of 4 head ++ pick (eqb n 14) (bytes_of 7 mid) []) (bytes_of 3 _)
    (all_append (λ b. b < 256) (bytes_of 4 head) (pick (eqb n 14) (bytes_of 7 mid) []) (bytes_are 4 head) (go (eqb n 14))) (bytes_are 3 _)
  where
    go : (b : Bool) → AreBytes (pick b (bytes_of 7 mid) [])
    go true = bytes_are 7 mid
    go false = tt
