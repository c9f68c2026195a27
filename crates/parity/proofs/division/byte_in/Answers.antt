-- `parity::division::byte_in` meets its contract: eight steps of the division at once, by the linearity of the remainder.
use mathlib.Core.Path.{ap, ◌∙◌, subst, sym}
use Prim.Native.Nat.{ℕ, ◌+◌, ◌*◌, ◌%◌, ◌<◌}
use native.Mathlib.Omega.{arith}
use lib.Bits.{bit_xor}
use Rattle.parity_rules.proofs.Linear.{byte_law, byte_bits, divide_lt}
use Rattle.parity.proofs.division.byte_in.Goals as goal

pub returns : goal.returns
returns c =
    let r = c.args.r in
    let b = c.args.b in
    let e = ap (λ (t : ℕ). bit_xor t (r % 65536 * 256 + b)) c.moved_up.ensures ∙ byte_law r b (omega arith) (omega arith) in
    (e, subst (λ (n : ℕ). n < 16777216) (sym e) (divide_lt _ (byte_bits b) r (omega arith)))
