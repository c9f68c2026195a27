-- The texts of the console from what was read of a line and from the parts that the code lays one after the other.
use Rattle.std.specs.Prelude.{Option, Some, None, unwrap_or, is_some, option_map}
use Prim.Native.Nat.{ℕ, ◌+◌, ◌-◌, ◌≤◌}
use native.Mathlib.Omega.{arith}
use mathlib.Core.Path.{◌≡◌, refl, sym, ap, ◌∙◌}
use mathlib.Core.Bool.{Bool}
use mathlib.Core.List.{List, []}
use lib.IntN.{ℤ, pos}
use lib.Seq.{take_at}
use lib.ListN.{length, take, drop, replicate, length-take, length-replicate, replicate-append-replicate}
use Rattle.text_rules.specs.Line.{words_of, within, NthWord}
use Rattle.text_rules.specs.Put.{laid}
use Rattle.text_rules.specs.Hex.{bytes_in, filled, HexRead}
use Rattle.text_rules.proofs.Laid.{take_laid, length_laid}
use Rattle.console_rules.proofs.Short.{bytes_short}
use Rattle.text_rules.specs.Bases.{number_of}
use Rattle.text_rules.specs.Signed.{integer_of}
use Rattle.text_rules.specs.declared.answer.Span.{Span}
use Rattle.console_rules.specs.declared.names.Sort.{Sort}
use Rattle.console_rules.specs.Texts.{word, number_at, integer_at, bytes_at, BytesAt}
use Rattle.console_rules.specs.Reasons.{says}

-- ---- read

-- the word that a span holds
pub word_of : {line : List ℕ} {k : ℕ} {w : Span} → NthWord line k w → take (w.to - w.from) (drop w.from line) ≡ word k (words_of line)
unfolding within word
word_of n = n.text

-- the bytes that were read of a word, by what it says
found_by_is : (o : Option (List ℕ)) {w l m : List ℕ} {r : Option ℕ} → bytes_in w ≡ o → HexRead w l m r
    → (unwrap_or r 0 ≡ length (unwrap_or o [])) × (m ≡ laid (unwrap_or o []) 0 l)
unfolding filled laid
found_by_is (Some bs) e h = (rw (h.answer, e), h.buffer ∙ rw e)
found_by_is None e h = (rw (h.answer, e), h.buffer ∙ rw e)

-- what the word that a span holds says
module _ {line : List ℕ} {k : ℕ} {w : Span} (at : NthWord line k w) where
  pub the_number : {n : ℕ} {r : Option ℕ} → r ≡ number_of (take (w.to - w.from) (drop w.from line)) → n ≡ unwrap_or r 0 → n ≡ number_at k (words_of line)
  the_number e h = rw (← word_of at, ← e) h

  pub the_integer : {z : ℤ} {r : Option ℤ} → r ≡ integer_of (take (w.to - w.from) (drop w.from line)) → z ≡ unwrap_or r (pos 0)
      → z ≡ integer_at k (words_of line)
  the_integer e h = rw (← word_of at, ← e) h

  pub the_bytes : {n : ℕ} {l m : List ℕ} {r : Option ℕ} → HexRead (take (w.to - w.from) (drop w.from line)) l m r → n ≡ unwrap_or r 0
      → BytesAt k (words_of line) l m n
  the_bytes e h =
      let f = found_by_is (bytes_in (word k (words_of line))) refl (rw (word_of at) at e) in
      record { answer = h ∙ f.0; buffer = f.1 }

-- a word says bytes where it was read as bytes
pub says_bytes : (w : List ℕ) {l m : List ℕ} {r : Option ℕ} → HexRead w l m r → is_some r ≡ is_some (bytes_in w)
says_bytes w h = by_answer (bytes_in w) h.answer
  where
    by_answer : {r : Option ℕ} (o : Option (List ℕ)) → r ≡ option_map length o → is_some r ≡ is_some o
    by_answer (Some bs) e = rw e
    by_answer None e = rw e

-- by the sort
pub sort_says : (w : List ℕ) {s t : Sort} {r : Bool} → s ≡ t → r ≡ says t w → r ≡ says s w
sort_says w e h = rw e h

pub same_says : (s : Sort) {line : List ℕ} {k : ℕ} {w : Span} {r : Bool} → NthWord line k w → r ≡ says s (take (w.to - w.from) (drop w.from line))
    → r ≡ says s (word k (words_of line))
same_says s at e = rw (word_of at) at e

-- ---- `search lent` finds what lending the bytes of a word asks, and as many zeros
front_zeros : (n : ℕ) → n ≤ 32 → take n (replicate {A = ℕ} 32 0) ≡ replicate n 0
front_zeros n h =
    let e : 32 ≡ n + (32 - n) = omega arith in
    ap (λ (k : ℕ). take n (replicate {A = ℕ} k 0)) e ∙ ap (take n) (sym (replicate-append-replicate n (32 - n) 0))
    ∙ take_at (replicate n 0) (replicate (32 - n) 0) n (length-replicate n 0)

module _ {k : ℕ} {ws : List (List ℕ)} {l m : List ℕ} {n : ℕ} (h : BytesAt k ws l m n) (z : length l ≡ 32) where
  pub bytes_few : n ≤ 32
  bytes_few = omega (arith, h.answer, bytes_short k ws)

  same : length m ≡ 32
  same = ap length h.buffer ∙ length_laid (bytes_at k ws) 0 l ∙ z

  pub bytes_room : n ≤ length m
  bytes_room = omega (arith, bytes_few, same)

  pub bytes_count : n ≡ length (take n m)
  bytes_count = simp length-take (omega (arith, bytes_few, same))

  pub lent_few : length (take n m) ≤ 32
  lent_few = omega (arith, bytes_few, bytes_count)

  pub bytes_zeros : take n (replicate {A = ℕ} 32 0) ≡ replicate (length (take n m)) 0
  bytes_zeros = front_zeros n bytes_few ∙ ap (λ (i : ℕ). replicate i 0) bytes_count

  pub zeros_lent : n ≡ length (take n (replicate {A = ℕ} 32 0))
  zeros_lent = rw (front_zeros n bytes_few) (sym (length-replicate n 0))

  pub bytes_are : take n m ≡ bytes_at k ws
  bytes_are = rw (h.answer, h.buffer) (take_laid (bytes_at k ws) l (omega (arith, bytes_short k ws)))

pub ruleset lent = (bytes_few, bytes_room, bytes_count, lent_few, bytes_zeros, zeros_lent, bytes_are)
