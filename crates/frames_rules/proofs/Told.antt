-- A reckoned answer of parity that is known to be a number: no refusal comes.
use mathlib.Core.Path.{◌≡◌}
use Prim.Native.Nat.{ℕ}
use Rattle.std.specs.Prelude.{Result, Ok, IsOk}
use Rattle.refusals.specs.declared.refusal.Refusal.{Refusal}

pub the_value : (x : Result ℕ Refusal) (v w : ℕ) → x ≡ Ok v → x ≡ Ok w → v ≡ w
the_value x v w e f = cc

pub no_refusal : (x : Result ℕ Refusal) (w : ℕ) → x ≡ Ok w → IsOk x
no_refusal x w e = rw e
