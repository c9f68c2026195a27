-- Words that show the distance to be no more: 6 at 112 bits, 8 at 56 bits; with their places marked the refusal stays, from that many marks on.
use mathlib.Core.Path.{◌≡◌, refl, sym, ap, subst, ◌∙◌}
use mathlib.Core.Bool.{true}
use mathlib.Core.List.{List, [], ◌∷◌}
use Prim.Native.Nat.{ℕ, suc, ◌≤◌}
use native.Mathlib.Omega.{arith}
use lib.Dec.{ltb}
use lib.ListN.{length, get_or, replicate, length-replicate}
use borrow.Author.Tests.{eq-eqb, ltb-true}
use Rattle.lists.specs.Lists.{every}
use Rattle.lists.proofs.Every.{every_at}
use Rattle.lists.proofs.Held.{all_same}
use Rattle.parity_rules.specs.Messages.{bits, xor_bits, differing, seven_or_fourteen, AreBytes}
use Rattle.parity_rules.specs.Division.{shift_in, divide, remainder_of}
use Rattle.parity_rules.specs.Answers.{buffers, Correction}
use Rattle.parity_rules.specs.Correction.{size_of, sized}
use Rattle.parity_rules.specs.Corrected.{AtMarks, Fitting}
use Rattle.parity_rules.specs.Places.{places_from, places_in}
use Rattle.parity_rules.proofs.Bits.{bytes_by_place}
use Rattle.parity_rules.proofs.Sum.{size_zeros}
use Rattle.parity_rules.proofs.Found.{all_marked, none_marked}
use Rattle.parity_rules.proofs.Judged.{ranged_in}
use Rattle.parity_rules.proofs.Outcomes.{doubt_of_two}
use Rattle.certain.specs.Certain.{Certain, Reached}

-- ---- a message of zeros, marked where a word of their overlay has ones: the zeros fit, and so does the word
pub record Word (n k : ℕ) (word : List ℕ) : Type 0 where
  pub either : seven_or_fourteen n ≡ true
  pub bytes : every (λ i. ltb (get_or word i 0) 256) (length word) ≡ true
  pub length_is : length word ≡ n
  pub size : size_of (bits word) ≡ suc k
  pub overlay : remainder_of (bits word) ≡ 0
  pub zeros : remainder_of (bits (replicate n 0)) ≡ 0
  pub own : differing (replicate n 0) word ≡ bits word
  pub none : differing (replicate n 0) (replicate n 0) ≡ replicate (length (bits word)) 0

module _ (n k : ℕ) (word : List ℕ) (w : Word n k word) where
  are_bytes_is : AreBytes word
  are_bytes_is = bytes_by_place word (λ i h. ltb-true (get_or word i 0) 256 (every_at (λ i. ltb (get_or word i 0) 256) (length word) i w.bytes h))

  zeros_fit : Fitting (replicate n 0) word 0 (replicate n 0)
  zeros_fit =
      record {
        bytes = all_same _ n 0 (omega arith);
        length_is = refl;
        at_marks = subst (λ (s : List ℕ). AtMarks s (bits word)) (sym w.none) (none_marked (bits word));
        overlaid = w.zeros;
      }

  word_fits : Fitting (replicate n 0) word 0 word
  word_fits =
      record {
        bytes = are_bytes_is;
        length_is = w.length_is ∙ sym (length-replicate n 0);
        at_marks = subst (λ (s : List ℕ). AtMarks s (bits word)) (sym w.own) (all_marked (bits word));
        overlaid = w.overlay;
      }

  -- they are two
  not_zeros : replicate n 0 ≡ word → ⊥
  not_zeros e =
      let z : differing (replicate n 0) word ≡ replicate (length (bits word)) 0 = ap (differing (replicate n 0)) (sym e) ∙ w.none in
      omega (arith, w.size, ap size_of (sym w.own ∙ z), size_zeros (length (bits word)))

  all_sized : sized n n n n ≡ true
  all_sized = rw (eq-eqb n n refl, w.either)

  reached : (places : List ℕ) → places_in word ≡ places → Reached n k word places
  reached places e =
      record {
        bytes = are_bytes_is;
        length_is = w.length_is;
        places_are = e;
        apart = ap size_of w.own ∙ w.size;
        overlay = w.overlay ∙ sym w.zeros;
        doubt = λ limit lent ho hp lo hi.
            doubt_of_two (replicate n 0) word 0 limit lent lent (all_same _ n 0 (omega arith))
            (rw (length-replicate {A = ℕ} n 0, w.length_is, ho, hp) all_sized) (ranged_in 0 limit (omega arith) hi) (omega (arith, w.size))
            (replicate n 0) word zeros_fit word_fits not_zeros;
      }

-- ---- 6 at 112 bits: 48, 54, 55, 58, 99 and 112
pub six_bits : Reached 14 5 (0 ∷ 0 ∷ 0 ∷ 0 ∷ 0 ∷ 1 ∷ 6 ∷ 64 ∷ 0 ∷ 0 ∷ 0 ∷ 0 ∷ 32 ∷ 1 ∷ []) (48 ∷ 54 ∷ 55 ∷ 58 ∷ 99 ∷ 112 ∷ [])
unfolding every bits xor_bits shift_in divide remainder_of size_of places_from
six_bits =
    reached 14 5 _
    (record { either = refl; bytes = refl; length_is = refl; size = refl; overlay = refl; zeros = refl; own = refl; none = refl }) _ refl

-- ---- 8 at 56 bits: 1, 26, 39, 46, 47, 54, 55 and 56
pub eight_bits : Reached 7 7 (128 ∷ 0 ∷ 0 ∷ 64 ∷ 2 ∷ 6 ∷ 7 ∷ []) (1 ∷ 26 ∷ 39 ∷ 46 ∷ 47 ∷ 54 ∷ 55 ∷ 56 ∷ [])
unfolding every bits xor_bits shift_in divide remainder_of size_of places_from
eight_bits =
    reached 7 7 _
    (record { either = refl; bytes = refl; length_is = refl; size = refl; overlay = refl; zeros = refl; own = refl; none = refl }) _ refl

-- ---- so no more marks are certain
pub no_more : (n k : ℕ) (word places : List ℕ) → suc k ≤ 12 → Reached n k word places → Certain n (suc k) → ⊥
no_more n k word places h r c =
    let z : List ℕ = replicate n 0 in
    let l : length z ≡ n = length-replicate n 0 in
    let e = r.doubt (suc k) (buffers z z) l l (omega arith) h in
    c.undoubted z word 0 (suc k) (buffers z z) (omega (arith, l)) (omega arith) (ap (λ (x : Correction). x.number) e)
