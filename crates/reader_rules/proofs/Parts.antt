-- The parts of a reply lie in the stream one after the other, and in a whole record they are message and marks to its very end.
use Prim.Native.Nat.{ℕ, ◌+◌, ◌≤◌}
use native.Mathlib.Omega.{arith}
use mathlib.Core.Path.{◌≡◌}
use mathlib.Core.List.{List}
use mathlib.Core.Logic.{◌⊎◌, inl, inr}
use lib.ListN.{length}
use Rattle.reader_rules.specs.declared.reading.Found.TheVariants.{Whole}
use Rattle.reader_rules.specs.Records.{body_length, message_length, record_at}
use Rattle.reader_rules.specs.Fields.{reply_at}
use Rattle.reader_rules.proofs.Steps.{whole_fits}

-- whatever the place, each part begins where the one before it ends, and the last ends in the stream
pub record InOrder (s : List ℕ) (kind b : ℕ) : Type 0 where
  pub first : (reply_at s kind b).message ≤ (reply_at s kind b).marks
  pub second : (reply_at s kind b).marks ≤ (reply_at s kind b).end
  pub inside : (reply_at s kind b).end ≤ length s

pub parts_in_order : (s : List ℕ) (kind b : ℕ) → InOrder s kind b
parts_in_order s kind b = record { first = omega arith; second = omega arith; inside = omega arith }

-- entry and tag are five bytes, and message and marks are as long as each other
pub reply_length : (k : ℕ) → (k ≡ 6) ⊎ (k ≡ 7) → body_length k ≡ 5 + message_length k + message_length k
unfolding body_length message_length
reply_length k (inl e) = rw e
reply_length k (inr e) = rw e

-- the parts of a whole reply
pub record WholeParts (s : List ℕ) (k b n : ℕ) : Type 0 where
  pub message : (reply_at s k b).message ≡ b + 5
  pub marks : (reply_at s k b).marks ≡ b + 5 + message_length k
  pub end : (reply_at s k b).end ≡ n
  pub size : n ≡ b + 5 + message_length k + message_length k

pub whole_parts : (s : List ℕ) (at : ℕ) {k b n : ℕ} → record_at s at ≡ Whole k b n → (k ≡ 6) ⊎ (k ≡ 7) → WholeParts s k b n
whole_parts s at {k} {b} {n} e h =
    let f = whole_fits s at e in
    let l = reply_length k h in
    let z : n ≡ b + 5 + message_length k + message_length k = omega (arith, f.next, l) in
    record {
      message = omega (arith, f.inside, z);
      marks = omega (arith, f.inside, z);
      end = omega (arith, f.inside, z);
      size = z;
    }
