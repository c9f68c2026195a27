-- The eight places of a byte, one after the other, and the bytes of the output.
use mathlib.Core.Path.{◌≡◌, refl, sym, ap, ap₂, ◌∙◌, subst, subst₂}
use mathlib.Core.List.{List, [], ◌∷◌, ◌++◌, append_assoc, append-nil}
use Prim.Native.Nat.{ℕ, suc, ◌+◌, ◌-◌, ◌*◌, ◌^◌, ◌<◌, ◌≤◌}
use native.Mathlib.Nat.{pow-suc, add_assoc}
use native.Mathlib.Numerals.{add-one}
use native.Mathlib.Omega.{arith}
use mathlib.Core.Bool.{Bool, true, false}
use lib.Dec.{eqb}
use lib.Bits.{bit_xor, xor_zero_l}
use lib.ListN.{length, drop, take, get_or, set, drop_of_length-le, replicate, length-replicate, get_or-replicate}
use lib.Seq.{drop-drop, drop-cons, take-suc-set, take_all}
use Rattle.lists.specs.Lists.{pick, spelled, filter}
use Rattle.parity_rules.specs.Correction.{matching, first, subsets, xor_of, size_of, flipped, mark_buffer}
use Rattle.parity_rules.specs.Steps.{Left, Chosen, ChosenByte}
use Rattle.parity_rules.proofs.Choosing.{first_is}

-- t places of the byte at i are done; s is the one match from i on
pub record ByteAt (ms syns : List ℕ) (i : ℕ) (s : List ℕ) (t mask taken k want : ℕ) : Type 0 where
  pub small : mask < 2 ^ t
  pub few : taken ≤ t
  pub spelled : spelled mask (take (8 - t) (drop t s)) ≡ spelled 0 (take 8 s)
  pub counted : taken + size_of (drop t s) ≡ size_of s
  pub left : Left ms syns (i + t) k want (drop t s)

spell : (m b n : ℕ) (l r : List ℕ) → l ≡ b ∷ r → spelled m (take (suc n) l) ≡ spelled (m * 2 + b) (take n r)
spell m b n l r e = rw e

weigh : (b : ℕ) (l r : List ℕ) → l ≡ b ∷ r → size_of l ≡ b + size_of r
unfolding size_of
weigh b l r e = rw e

pub byte_step : (ms syns : List ℕ) (i : ℕ) (s : List ℕ) (t mask taken k want b k' want' : ℕ) → t < 8 → ByteAt ms syns i s t mask taken k want
    → Chosen ms syns (i + t) want (first (matching want (drop (i + t) ms))) b k' want'
    → ByteAt ms syns i s (t + 1) (mask * 2 + b) (taken + b) k' want'
byte_step ms syns i s t mask taken k want b k' want' h a c =
    let ch : Chosen ms syns (i + t) want (drop t s) b k' want' =
    subst (λ (u : List ℕ). Chosen ms syns (i + t) want u b k' want') (first_is ms syns (i + t) k want (drop t s) a.left) c in
    let hd : drop t s ≡ b ∷ drop (t + 1) s = ch.head ∙ ap (λ (u : List ℕ). b ∷ u) (drop-drop 1 t s) in
    let n : 8 - t ≡ suc (8 - (t + 1)) = omega arith in
    record {
      small = rw (add-one t) (omega (arith, pow-suc 2 t, a.small, ch.small));
      few = omega (arith, a.few, ch.small);
      spelled = sym (ap (λ (x : ℕ). spelled mask (take x (drop t s))) n ∙ spell mask b (8 - (t + 1)) (drop t s) (drop (t + 1) s) hd) ∙ a.spelled;
      counted = omega (arith, weigh b (drop t s) (drop (t + 1) s) hd, a.counted);
      left = subst₂ (λ (x : ℕ) (u : List ℕ). Left ms syns x k' want' u) (add_assoc i t 1) (drop-drop 1 t s) ch.left;
    }

pub byte_start : (ms syns : List ℕ) (i : ℕ) (s : List ℕ) (k want : ℕ) → Left ms syns i k want s → ByteAt ms syns i s 0 0 0 k want
byte_start ms syns i s k want l =
    record {
      small = omega arith;
      few = omega arith;
      spelled = refl;
      counted = omega arith;
      left = subst (λ (x : ℕ). Left ms syns x k want s) (omega arith) l;
    }

pub byte_end : (ms syns : List ℕ) (i : ℕ) (s : List ℕ) (t mask taken k want : ℕ) → t ≤ 8 → 8 ≤ t → ByteAt ms syns i s t mask taken k want
    → ChosenByte ms syns i s mask taken k want
byte_end ms syns i s t mask taken k want h h' a =
    let e : t ≡ 8 = omega arith in
    let z : ByteAt ms syns i s 8 mask taken k want = subst (λ (x : ℕ). ByteAt ms syns i s x mask taken k want) e a in
    record { small = z.small; few = z.few; eight = z.spelled; counted = z.counted; left = z.left }

-- ---- a buffer of which j bytes are written: those of a message with the places of s flipped
abbrev Laid : List ℕ → List ℕ → ℕ → List ℕ → Type 0
Laid msg s j out = take j out ++ flipped (drop j msg) (drop (j * 8) s) ≡ flipped msg s

flip_byte : (msg s : List ℕ) (j : ℕ) → j < length msg
    → flipped (drop j msg) s ≡ bit_xor (get_or msg j 0) (spelled 0 (take 8 s)) ∷ flipped (drop (j + 1) msg) (drop 8 s)
unfolding flipped
flip_byte msg s j h = rw (add-one j, drop-cons msg j 0 h)

-- eight places further
further : (s : List ℕ) (j : ℕ) → drop 8 (drop (j * 8) s) ≡ drop ((j + 1) * 8) s
further s j = let e : j * 8 + 8 ≡ (j + 1) * 8 = omega arith in drop-drop 8 (j * 8) s ∙ ap (λ (n : ℕ). drop n s) e

laid_next : (msg s : List ℕ) (j : ℕ) (out : List ℕ) (mask v : ℕ) → j < length msg → j < length out → mask ≡ spelled 0 (take 8 (drop (j * 8) s))
    → v ≡ bit_xor (get_or msg j 0) mask → Laid msg s j out → Laid msg s (j + 1) (set out j v)
laid_next msg s j out mask v h h' em ev w =
    let rest = flipped (drop (j + 1) msg) (drop ((j + 1) * 8) s) in
    ap (λ (n : ℕ). take n (set out j v) ++ rest) (add-one j)
    ∙ ap (λ (u : List ℕ). u ++ rest) (take-suc-set out j v h')
    ∙ append_assoc (take j out) (v ∷ []) rest
    ∙ ap (λ (u : List ℕ). take j out ++ u)
    (sym
    (flip_byte msg (drop (j * 8) s) j h
    ∙ ap₂ (λ (n : ℕ) (u : List ℕ). n ∷ flipped (drop (j + 1) msg) u) (sym (ev ∙ ap (bit_xor (get_or msg j 0)) em)) (further s j)))
    ∙ w

laid_all : (msg s : List ℕ) (j : ℕ) (out : List ℕ) → length out ≤ j → length msg ≤ j → Laid msg s j out → out ≡ flipped msg s
unfolding flipped
laid_all msg s j out ho hm w =
    let m : drop j msg ≡ [] = drop_of_length-le msg {i = j} hm in
    sym (take_all j out ho) ∙ sym (append-nil (take j out)) ∙ rw m at w

-- ---- j bytes of the output and of the places are written; s is the one match
pub record Written (ms syns msg s : List ℕ) (j k want flips : ℕ) (out places : List ℕ) : Type 0 where
  pub few : flips ≤ j * 8
  pub counted : flips + size_of (drop (j * 8) s) ≡ size_of s
  pub bytes : Laid msg s j out
  pub marks : Laid (replicate (length msg) 0) s j places
  pub left : Left ms syns (j * 8) k want (drop (j * 8) s)

pub written_start : (ms syns msg s : List ℕ) (k want : ℕ) (out places : List ℕ) → Left ms syns 0 k want s → Written ms syns msg s 0 k want 0 out places
written_start ms syns msg s k want out places l = record { few = omega arith; counted = omega arith; bytes = refl; marks = refl; left = l }

pub written_step : (ms syns msg s : List ℕ) (j k want flips : ℕ) (out places : List ℕ) (mask taken k' want' : ℕ) → j < length msg → j < length out
    → j < length places → Written ms syns msg s j k want flips out places
    → ChosenByte ms syns (j * 8) (first (matching want (drop (j * 8) ms))) mask taken k' want'
    → Written ms syns msg s (j + 1) k' want' (flips + taken) (set out j (bit_xor (get_or msg j 0) mask)) (set places j mask)
written_step ms syns msg s j k want flips out places mask taken k' want' h ho hp w c =
    let ch : ChosenByte ms syns (j * 8) (drop (j * 8) s) mask taken k' want' =
    subst (λ (u : List ℕ). ChosenByte ms syns (j * 8) u mask taken k' want') (first_is ms syns (j * 8) k want (drop (j * 8) s) w.left) c in
    let e : j * 8 + 8 ≡ (j + 1) * 8 = omega arith in
    let z : mask ≡ bit_xor (get_or (replicate (length msg) 0) j 0) mask =
    sym (ap (λ (n : ℕ). bit_xor n mask) (get_or-replicate (length msg) j 0 0 h) ∙ xor_zero_l mask) in
    record {
      few = omega (arith, w.few, ch.few);
      counted = omega (arith, ap size_of (further s j), ch.counted, w.counted);
      bytes = laid_next msg s j out mask _ h ho ch.eight refl w.bytes;
      marks = laid_next (replicate (length msg) 0) s j places mask mask (rw (length-replicate {A = ℕ} (length msg) 0) h) hp ch.eight z w.marks;
      left = subst₂ (λ (x : ℕ) (u : List ℕ). Left ms syns x k' want' u) e (further s j) ch.left;
    }

empty_only : (b : Bool) (u : List ℕ) → pick b ([] ∷ []) [] ≡ u ∷ [] → u ≡ []
empty_only true u e = cc
empty_only false u e = absurd (omega (arith, ap length e))

none_left : (want : ℕ) (u : List ℕ) → matching want [] ≡ u ∷ [] → u ≡ []
unfolding filter matching subsets xor_of
none_left want u e = empty_only (eqb 0 want) u e

pub written_end : (ms syns msg s : List ℕ) (j k want flips : ℕ) (out places : List ℕ) → length ms ≤ j * 8 → length out ≤ j → length places ≤ j
    → length msg ≤ j → Written ms syns msg s j k want flips out places
    → (flips ≡ size_of s) × (out ≡ flipped msg s) × (places ≡ mark_buffer (length msg) s)
unfolding size_of
written_end ms syns msg s j k want flips out places hs ho hp hm w =
    let d : drop (j * 8) ms ≡ [] = drop_of_length-le ms {i = j * 8} hs in
    let n : drop (j * 8) s ≡ [] = none_left want (drop (j * 8) s) (rw d at w.left.only) in (
      omega (arith, rw n at w.counted),
      laid_all msg s j out ho hm w.bytes,
      laid_all (replicate (length msg) 0) s j places hp (rw (length-replicate {A = ℕ} (length msg) 0) hm) w.marks,
    )
