-- `parity::division::moved_up` meets its contract: one test over the 256 bytes, which antt computes.
use mathlib.Core.Path.{◌≡◌, refl}
use Prim.Native.Nat.{ℕ, ◌*◌, ◌/◌, ◌%◌, ◌<◌}
use native.Mathlib.Omega.{arith}
use lib.Bits.{bit_xor, xor_lt}
use Rattle.lists.proofs.Table.{alike}
use Rattle.parity_rules.specs.Division.{shift_in, divide}
use Rattle.parity_rules.specs.Steps.{moved_up}
use Rattle.parity.proofs.division.moved_up.Goals as goal

-- the code's u, and its result
abbrev u : ℕ → ℕ
u h = bit_xor (h / 2) (h / 2 * 2)

abbrev body : ℕ → ℕ
body h = bit_xor (bit_xor (bit_xor (h % 2 * 0xFFF409) (bit_xor (u h) (h / 2 * 4) * 1024)) (u h * 8)) (u h)

rule : (h : ℕ) → h < 256 → body h ≡ moved_up h
unfolding moved_up divide shift_in
rule h l = alike body moved_up 256 h refl l

u-lt : (h : ℕ) → h < 256 → u h < 256
u-lt h l = xor_lt 8 (h / 2) (h / 2 * 2) (omega arith) (omega arith)

pub overflow_mul-result-3 : goal.overflow_mul-result-3
overflow_mul-result-3 c = let h = c.args.h in omega (arith, xor_lt 9 (u h) (h / 2 * 4) (omega (arith, u-lt h c.requires)) (omega arith))

pub overflow_mul-result-4 : goal.overflow_mul-result-4
overflow_mul-result-4 c = omega (arith, u-lt c.args.h c.requires)

pub returns : goal.returns
returns c = rule c.args.h c.requires
