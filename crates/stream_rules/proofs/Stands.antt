-- The transcript is the lines of its records, one after the other, and nothing else, for every input.
use Prim.Native.Nat.{ℕ, zero, suc, ◌+◌, ◌-◌, ◌≤◌, ◌<◌}
use mathlib.Core.Path.{◌≡◌, refl, ap, sym, ◌∙◌}
use mathlib.Core.Bool.{Bool, true, false}
use mathlib.Core.List.{List, [], ◌++◌, append_assoc, append-nil}
use lib.ListN.{length, take, length-take}
use native.Mathlib.Omega.{arith}
use Rattle.lists.specs.Lists.{pick}
use Rattle.station_rules.specs.History.{Call, after}
use Rattle.stream_rules.specs.Run.{goes_on, text_from, transcript}
use Rattle.stream_rules.specs.Spelled.{stream_of, place_of, found_after, calls_of, Spells, record_lines, lines_before, reached}
use Rattle.stream_rules.specs.Printed.{Stands, AllPrinted}
use Rattle.stream_rules.proofs.Runs.{stays_by, taken_by}
use Rattle.stream_rules.proofs.Spelled.{leaves}

-- a record that is whole is reached
pub whole_reached : (s : List ℕ) (k : ℕ) → goes_on (found_after s k) ≡ true → reached s k ≡ true
unfolding reached place_of
whole_reached s zero e = refl
whole_reached s (suc k) e = go (goes_on (found_after s k)) refl
  where
    go : (b : Bool) → goes_on (found_after s k) ≡ b → goes_on (found_after s k) ≡ true
    go true h = h
    go false h = rw (stays_by (found_after s k) (place_of s k) h) at e

-- and stands behind as many bytes as there are records before it
pub within : (s : List ℕ) (k : ℕ) → reached s k ≡ true → (k ≤ place_of s k) × (place_of s k ≤ length s)
unfolding reached place_of
within s zero e = (omega arith, omega arith)
within s (suc k) e =
    let h = within s k (whole_reached s k e) in
    let t = taken_by s (place_of s k) (found_after s k) refl e in
    (omega (arith, h.0, t.forward), t.inside)

-- the text of at most j records, behind the first k
abbrev pub onward : ℕ → List ℕ → ℕ → List ℕ
onward j s k = text_from j s (place_of s k) (suc k) (after (calls_of s k))

pub one_more : (j : ℕ) (s : List ℕ) (k : ℕ) → onward (suc j) s k ≡ record_lines s k ++ pick (goes_on (found_after s k)) (onward j s (suc k)) []
unfolding text_from record_lines place_of calls_of
one_more j s k =
    let n : suc k + 1 ≡ suc (suc k) = omega arith in
    rw (n, leaves s (place_of s k) (suc k) (calls_of s k) (found_after s k) refl)

lines_then : (s : List ℕ) (k j m : ℕ) → k + j ≡ m → reached s k ≡ true → onward m s 0 ≡ lines_before s k ++ onward j s k
unfolding lines_before reached
lines_then s zero j m e h = let z : j ≡ m = omega (arith, e) in rw z
lines_then s (suc k) j m e h =
    let p : pick (goes_on (found_after s k)) (onward j s (suc k)) [] ≡ onward j s (suc k) = rw h in
    lines_then s k (suc j) m (omega (arith, e)) (whole_reached s k h)
    ∙ ap (λ (t : List ℕ). lines_before s k ++ t) (one_more j s k ∙ ap (λ (t : List ℕ). record_lines s k ++ t) p)
    ∙ sym (append_assoc (lines_before s k) (record_lines s k) (onward j s (suc k)))

-- for every input and each record that its run comes to
pub stands : (input : List ℕ) (k : ℕ) → reached (stream_of input) k ≡ true → Stands input k
unfolding transcript place_of calls_of after
stands input k h =
    let s = stream_of input in
    let b = within s k h in
    let l : length (take 65536 input) ≤ 65536 = simp length-take (omega arith) in
    let j = 65536 - k in
    let e : k + suc j ≡ 65537 = omega (arith, b.0, b.1, l) in
    record {
      behind = pick (goes_on (found_after s k)) (onward j s (suc k)) [];
      transcript_is = lines_then s k (suc j) 65537 e h ∙ ap (λ (t : List ℕ). lines_before s k ++ t) (one_more j s k);
      last = λ z. rw z;
    }

pub whole_stands : (input : List ℕ) (k : ℕ) {kind : ℕ} {c : Call} → Spells (stream_of input) k kind c → Stands input k
unfolding goes_on
whole_stands input k h = stands input k (whole_reached (stream_of input) k (ap goes_on h.whole))

-- the run of every input comes to its last record
pub record Last (s : List ℕ) : Type 0 where
  pub count : ℕ
  pub comes : reached s count ≡ true
  pub ends : goes_on (found_after s count) ≡ false

last_by : (s : List ℕ) (k : ℕ) (b : Bool) → goes_on (found_after s k) ≡ b → reached s k ≡ true → (reached s (suc k) ≡ true → Last s) → Last s
unfolding reached
last_by s k true e h later = later e
last_by s k false e h later = record { count = k; comes = h; ends = e }

comes_to_last : (j : ℕ) (s : List ℕ) (k : ℕ) → length s < k + j → reached s k ≡ true → Last s
comes_to_last zero s k l h = let b = within s k h in absurd (omega (arith, l, b.0, b.1))
comes_to_last (suc j) s k l h = last_by s k (goes_on (found_after s k)) refl h (λ y. comes_to_last j s (suc k) (omega (arith, l)) y)

pub all_printed : (input : List ℕ) → AllPrinted input
unfolding reached lines_before
all_printed input =
    let s = stream_of input in
    let l = comes_to_last (suc (length s)) s 0 (omega arith) refl in
    let t = stands input l.count l.comes in
    record {
      count = l.count;
      comes = l.comes;
      ends = l.ends;
      transcript_is =
          t.transcript_is
          ∙ ap (λ (b : List ℕ). lines_before s l.count ++ (record_lines s l.count ++ b)) (t.last l.ends)
          ∙ ap (λ (b : List ℕ). lines_before s l.count ++ b) (append-nil (record_lines s l.count));
    }
