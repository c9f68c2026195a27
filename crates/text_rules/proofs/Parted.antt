-- Words parted by spaces, and lines ended by newlines, are read back.
use Prim.Native.Nat.{ℕ, ◌<◌}
use native.Mathlib.Omega.{arith}
use mathlib.Core.Path.{◌≡◌, refl, ap}
use mathlib.Core.List.{List, [], ◌∷◌, ◌++◌}
use mathlib.Core.Bool.{Bool, true, false}
use lib.IntN.{ℤ, pos, negsuc}
use lib.ListN.{length}
use borrow.Author.Tests.{ne_eqb}
use Rattle.lists.specs.Lists.{All}
use Rattle.lists.proofs.Held.{all_nil, all_cons, all_map}
use Rattle.text_rules.specs.Put.{decimal}
use Rattle.text_rules.specs.Signed.{signed_decimal}
use Rattle.text_rules.specs.Line.{blank, newline, grown, parts, full, lines_of, words_of}
use Rattle.text_rules.proofs.Decimal.{decimal_printing, decimal_some}

-- a word: bytes that are neither blank nor newline, and at least one
pub record Word (w : List ℕ) : Type 0 where
  pub some : 0 < length w
  pub printing : All (λ b. 32 < b) w

pub decimal_word : (n : ℕ) → Word (decimal n)
decimal_word n = record { some = decimal_some n; printing = decimal_printing n }

-- a sign before digits
pub signed_word : (d : ℤ) → Word (signed_decimal d)
unfolding signed_decimal
signed_word (pos n) = decimal_word n
signed_word (negsuc n) = record { some = omega arith; printing = all_cons (λ b. 32 < b) 45 _ (omega arith) (decimal_printing _) }

pub dash_word : Word (45 ∷ [])
dash_word = record { some = omega arith; printing = all_cons (λ b. 32 < b) 45 [] (omega arith) (all_nil (λ b. 32 < b)) }

-- ---- a part is read up to the byte that ends it
module _ (ends : ℕ → Bool) where
  abbrev Inside : List ℕ → Type 0
  Inside w = All (λ b. ends b ≡ false) w

  part_to : (w : List ℕ) (b : ℕ) (t : List ℕ) → Inside w → ends b ≡ true → parts ends (w ++ (b ∷ t)) ≡ w ∷ parts ends t
  unfolding parts grown All
  part_to [] b t n e = rw e
  part_to (c ∷ w) b t n e = rw (n.0, part_to w b t n.1 e)

  part_alone : (c : ℕ) (w : List ℕ) → Inside (c ∷ w) → parts ends (c ∷ w) ≡ (c ∷ w) ∷ []
  unfolding parts grown All
  part_alone c [] n = rw n.0
  part_alone c (d ∷ w) n = rw n.0 (ap (grown c) (part_alone d w n.1))

no_blank : (b : ℕ) → 32 < b → blank b ≡ false
unfolding blank
no_blank b h = rw (ne_eqb b 32 (λ e. omega arith), ne_eqb b 9 (λ e. omega arith), ne_eqb b 13 (λ e. omega arith))

pub no_newline : (b : ℕ) → 32 < b → newline b ≡ false
unfolding newline
no_newline b h = rw (ne_eqb b 10 (λ e. omega arith))

in_word_is : (w : List ℕ) → Word w → All (λ b. blank b ≡ false) w
in_word_is w h = all_map (λ b. 32 < b) (λ b. blank b ≡ false) no_blank w h.printing

-- a word and the space behind it; the last word; a line
pub word_then : (w t : List ℕ) → Word w → words_of (w ++ (32 ∷ t)) ≡ w ∷ words_of t
unfolding words_of full blank
word_then [] t h = absurd (omega (arith, h.some))
word_then (b ∷ w) t h = ap full (part_to blank (b ∷ w) 32 t (in_word_is (b ∷ w) h) refl)

pub word_last : (w : List ℕ) → Word w → words_of w ≡ w ∷ []
unfolding words_of full
word_last [] h = absurd (omega (arith, h.some))
word_last (b ∷ w) h = ap full (part_alone blank b w (in_word_is (b ∷ w) h))

pub line_then : (l t : List ℕ) → All (λ b. newline b ≡ false) l → lines_of (l ++ (10 ∷ t)) ≡ l ∷ lines_of t
unfolding lines_of newline
line_then l t h = part_to newline l 10 t h refl
