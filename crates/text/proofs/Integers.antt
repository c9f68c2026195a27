-- What a word says with its sign, from what the code tested: for `up` and `down`.
use Rattle.std.specs.Prelude.{Option, Some, None, Result, Ok, Err, SomeIff, OkIff}
use Rattle.std.specs.Result.{result_ok}
use Rattle.std.proofs.lemmas.Int.{ints}
use Prim.Native.Nat.{ℕ, zero, suc, ◌^◌, ◌≤◌, ◌<◌}
use native.Mathlib.Omega.{arith}
use mathlib.Core.Path.{◌≡◌, refl}
use lib.IntN.{ℤ, pos, ◌-ℤ◌, sub_ℕ}
use mir.Syntax.{w32}
use mir.Val.{SFits}
use borrow.Author.Tests.{lt-ltb, le-ltb, le-leb, lt-leb}
use Rattle.text_rules.specs.Signed.{upward, downward}

-- ---- a number without a sign, of 32 bits with one
pub raised : {E : Type 0} (v : ℕ) (r : Result ℤ E) → OkIff r (SFits w32 (pos v)) (pos v) → result_ok r ≡ upward (Some v)
unfolding upward
raised v (Ok z) h = let l : v < 2 ^ 31 = grind (arith, ints, h.0) in rw (h.1, lt-ltb v (2 ^ 31) l)
raised v (Err e) h = let l : 2 ^ 31 ≤ v = grind (arith, ints, h) in rw (le-ltb v (2 ^ 31) l)

-- behind a minus sign
turned : (v : ℕ) → pos 0 -ℤ pos v ≡ sub_ℕ 0 v
turned zero = refl
turned (suc v) = refl

pub lowered : (v : ℕ) (r : Option ℤ) → SomeIff r (SFits w32 (pos 0 -ℤ pos v)) (pos 0 -ℤ pos v) → r ≡ downward (Some v)
unfolding downward
lowered v (Some z) h = let l : v ≤ 2 ^ 31 = grind (arith, ints, h.0) in rw (h.1, le-leb v (2 ^ 31) l, turned v)
lowered v None h = let l : 2 ^ 31 < v = grind (arith, ints, h) in rw (lt-leb v (2 ^ 31) l)

-- a word that says no number
pub none_up : upward None ≡ None
unfolding upward
none_up = refl

pub none_down : downward None ≡ None
unfolding downward
none_down = refl
