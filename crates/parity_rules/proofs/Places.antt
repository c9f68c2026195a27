-- The numbers of the places that a mark buffer marks: they rise, they are its marked bits and no others, and they are as many.
use mathlib.Core.Path.{◌≡◌, refl, sym, ◌∙◌}
use mathlib.Core.Logic.{◌⊎◌, inl, inr, ⊎_elim}
use mathlib.Core.List.{List, [], ◌∷◌}
use Prim.Native.Nat.{ℕ, zero, suc, ◌+◌, ◌-◌, ◌<◌, ◌≤◌}
use native.Mathlib.Omega.{arith}
use lib.ListN.{length, get_or}
use Rattle.lists.specs.Lists.{All}
use Rattle.parity_rules.specs.Messages.{bits, AreBits}
use Rattle.parity_rules.specs.Correction.{size_of}
use Rattle.parity_rules.specs.Places.{places_from, places_in, Rises, Among, Numbered}
use Rattle.parity_rules.proofs.Bits.{bits_are}

rises_later : (i j : ℕ) (ps : List ℕ) → i ≤ j → Rises j ps → Rises i ps
rises_later i j [] h r = tt
rises_later i j (p ∷ ps) h r = (omega (arith, r.0), r.1)

rises : (i : ℕ) (s : List ℕ) → Rises i (places_from i s)
unfolding places_from
rises i [] = tt
rises i (zero ∷ s) = rises_later i (suc i) (places_from (suc i) s) (omega arith) (rises (suc i) s)
rises i (suc b ∷ s) = (omega arith, rises (suc i) s)

-- as many as are marked
pub counted : (i : ℕ) (s : List ℕ) → AreBits s → length (places_from i s) ≡ size_of s
unfolding All places_from size_of
counted i [] h = refl
counted i (zero ∷ s) h = omega (arith, counted (suc i) s h.1)
counted i (suc zero ∷ s) h = omega (arith, counted (suc i) s h.1)
counted i (suc (suc b) ∷ s) h = absurd (omega (arith, h.0))

-- none is beyond the last bit
pub inside : (i : ℕ) (s : List ℕ) (n : ℕ) → i + length s ≤ n → All (λ p. p < n) (places_from i s)
unfolding All places_from
inside i [] n h = tt
inside i (zero ∷ s) n h = inside (suc i) s n (omega arith)
inside i (suc b ∷ s) n h = (omega arith, inside (suc i) s n (omega arith))

-- ---- a number is among them exactly if its bit is marked
at_least : (i k : ℕ) (ps : List ℕ) → Rises i ps → Among k ps → i ≤ k
at_least i k [] r a = absurd a
at_least i k (p ∷ ps) r (inl e) = omega (arith, r.0)
at_least i k (p ∷ ps) r (inr a) = omega (arith, r.0, at_least (suc p) k ps r.1 a)

-- the bit with this number among bits from i on
abbrev bit_of : ℕ → ℕ → List ℕ → ℕ
bit_of i k s = get_or s (k - i) 0

later : (i k b : ℕ) (s : List ℕ) → suc i ≤ k → bit_of i k (b ∷ s) ≡ bit_of (suc i) k s
later i k b s h = let e : k - i ≡ suc (k - suc i) = omega arith in rw e

first_bit : (i k b : ℕ) (s : List ℕ) → k ≡ i → bit_of i k (b ∷ s) ≡ b
first_bit i k b s h = let e : k - i ≡ 0 = omega arith in rw e

told_marked : (i k : ℕ) (s : List ℕ) → AreBits s → Among k (places_from i s) → bit_of i k s ≡ 1
unfolding All places_from
told_marked i k [] h a = absurd a
told_marked i k (zero ∷ s) h a =
    later i k 0 s (at_least (suc i) k (places_from (suc i) s) (rises (suc i) s) a) ∙ told_marked (suc i) k s h.1 a
told_marked i k (suc b ∷ s) h (inl e) = first_bit i k (suc b) s e ∙ omega (arith, h.0)
told_marked i k (suc b ∷ s) h (inr a) =
    later i k (suc b) s (at_least (suc i) k (places_from (suc i) s) (rises (suc i) s) a) ∙ told_marked (suc i) k s h.1 a

-- a place is the first or a later one
here_or_later : (i k : ℕ) → i ≤ k → (k ≡ i) ⊎ (suc i ≤ k)
here_or_later i k h = go (k - i) refl
  where
    go : (d : ℕ) → k - i ≡ d → (k ≡ i) ⊎ (suc i ≤ k)
    go zero e = inl (omega arith)
    go (suc d) e = inr (omega arith)

marked_told : (i k : ℕ) (s : List ℕ) → i ≤ k → bit_of i k s ≡ 1 → Among k (places_from i s)
unfolding places_from
marked_told i k [] h e = absurd (omega arith)
marked_told i k (zero ∷ s) h e =
    ⊎_elim (λ q. absurd (omega (arith, sym (first_bit i k 0 s q) ∙ e))) (λ l. marked_told (suc i) k s l (sym (later i k 0 s l) ∙ e))
    (here_or_later i k h)
marked_told i k (suc b ∷ s) h e =
    ⊎_elim (λ q. inl q) (λ l. inr (marked_told (suc i) k s l (sym (later i k (suc b) s l) ∙ e))) (here_or_later i k h)

-- the theorem, of every mark buffer
pub numbered : (marks : List ℕ) → Numbered marks (places_in marks)
numbered marks =
    record {
      rising = rises 1 (bits marks);
      exactly =
          λ k. (
            λ a. (at_least 1 k (places_in marks) (rises 1 (bits marks)) a, told_marked 1 k (bits marks) (bits_are marks) a),
            λ p. marked_told 1 k (bits marks) p.0 p.1,
          );
      counted = counted 1 (bits marks) (bits_are marks);
    }
