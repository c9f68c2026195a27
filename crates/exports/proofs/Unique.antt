-- What a packed answer says is unique: a number and buffers that say the same correction are the same.
use mathlib.Core.Path.{◌≡◌, ap}
use Prim.Native.Nat.{ℕ, ◌/◌, ◌%◌}
use native.Mathlib.Omega.{arith}
use Rattle.parity_rules.specs.Answers.{Buffers, Correction}
use Rattle.exports.specs.Packed.{opened}

pub opened_one : (r q : ℕ) (o p : Buffers) → opened r o ≡ opened q p → (r ≡ q) × (o ≡ p)
opened_one r q o p e =
    let n : r / 4294967296 ≡ q / 4294967296 = ap (λ (x : Correction). x.number) e in
    let f : r % 4294967296 ≡ q % 4294967296 = ap (λ (x : Correction). x.flips) e in
    (omega arith, ap (λ (x : Correction). x.buffers) e)
