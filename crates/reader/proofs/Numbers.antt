-- Laws of the numbers in a body, of which i bytes are read, and of bytes beyond the end.
use Prim.Native.Nat.{ℕ, ◌+◌, ◌*◌, ◌^◌, ◌≤◌, ◌<◌, min}
use native.Mathlib.Nat.{pow-suc, pow-le-pow_right, add_assoc, add-zero}
use native.Mathlib.Numerals.{add-one}
use native.Mathlib.Omega.{arith}
use mathlib.Core.Path.{◌≡◌, refl, sym}
use mathlib.Core.List.{List, [], ◌∷◌}
use lib.ListN.{length, get_or, get_or-eq_default}
use Rattle.reader_rules.specs.Records.{body_length, number_at}
use Rattle.reader_rules.specs.Fields.{eight_at}

-- a kind above 9 has no body
pub body_none : (k : ℕ) → 9 < k → 0 ≡ body_length k
unfolding body_length
body_none k h = sym (get_or-eq_default (0 ∷ 21 ∷ 7 ∷ 3 ∷ 17 ∷ 4 ∷ 19 ∷ 33 ∷ 3 ∷ 7 ∷ []) 0 {n = k} (omega arith))

pub number_none : (s : List ℕ) (at : ℕ) → 0 ≡ number_at s at 0
unfolding number_at
number_none s at = refl

pub number_more : (s : List ℕ) (at from i n b : ℕ) → n ≡ number_at s (at + from) i → b ≡ get_or s (at + (from + i)) 0
    → n * 256 + b ≡ number_at s (at + from) (i + 1)
unfolding number_at
number_more s at from i n b e h = rw (add-one, e, h, add_assoc at from i)

pub number_below : (n i b : ℕ) → n < 256 ^ i → b < 256 → n * 256 + b < 256 ^ (i + 1)
number_below n i b h k = rw (add-one, pow-suc) (omega arith)

-- a number of fewer bytes is not above those of more
pub bytes_below : (i m : ℕ) → i ≤ m → 256 ^ i ≤ 256 ^ m
bytes_below i m h = pow-le-pow_right (omega arith) h

-- ---- a byte at the place r, the place p or the end of the stream

pub byte_inside : (s : List ℕ) (p r : ℕ) → r ≡ min (length s) p → r < length s → get_or s r 0 ≡ get_or s p 0
byte_inside s p r e h =
    let q : r ≡ p = omega (arith, e) in
    rw q

pub byte_beyond : (s : List ℕ) (p r : ℕ) → r ≡ min (length s) p → length s ≤ r → 0 ≡ get_or s p 0
byte_beyond s p r e h = sym (get_or-eq_default s 0 {n = p} (omega (arith, e)))

-- eight bytes, each at its place
module _ (s : List ℕ) (at from : ℕ) where
  pub eight_of : {a b c d e f g h : ℕ} → a ≡ get_or s (at + from) 0 → b ≡ get_or s (at + (from + 1)) 0 → c ≡ get_or s (at + (from + 2)) 0
      → d ≡ get_or s (at + (from + 3)) 0
      → e ≡ get_or s (at + (from + 4)) 0 → f ≡ get_or s (at + (from + 5)) 0 → g ≡ get_or s (at + (from + 6)) 0 → h ≡ get_or s (at + (from + 7)) 0
      → ◌≡◌ {A = List ℕ} (a ∷ b ∷ c ∷ d ∷ e ∷ f ∷ g ∷ h ∷ []) (eight_at s (at + from))
  unfolding eight_at
  eight_of ea eb ec ed ee ef eg eh =
      rw (
        ea,
        eb,
        ec,
        ed,
        ee,
        ef,
        eg,
        eh,
        add_assoc at from 1,
        add_assoc at from 2,
        add_assoc at from 3,
        add_assoc at from 4,
        add_assoc at from 5,
        add_assoc at from 6,
        add_assoc at from 7,
      )

-- ---- what stands at the place itself

pub byte_here : (s : List ℕ) (at : ℕ) → get_or s (at + 0) 0 ≡ get_or s at 0
byte_here s at = rw (add-zero at)

pub number_here : (s : List ℕ) (at k : ℕ) → number_at s (at + 0) k ≡ number_at s at k
number_here s at k = rw (add-zero at)
