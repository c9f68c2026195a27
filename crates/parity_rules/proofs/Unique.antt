-- What an answer says is unique: answers that say the same are the same answer.
use mathlib.Core.Path.{◌≡◌, sym, ap}
use lib.ListN.{get_or}
use Prim.Native.Nat.{ℕ}
use Rattle.std.specs.Prelude.{Result, Ok, Err}
use borrow.Author.Tests.{eqb-false}
use Rattle.lists.specs.Answers.{Answer}
use Rattle.refusals.specs.declared.refusal.Refusal.{Refusal}
use Rattle.refusals.specs.Refusals.{number_of}
use Rattle.refusals.proofs.Numbers.{not_done, same_number}
use Rattle.parity_rules.specs.Answers.{Buffers, Correction, reckoned_said, fix_said}

-- a value and a refusal do not say the same number
pub apart : (r : Refusal) → 0 ≡ number_of r → ⊥
apart r e = eqb-false (number_of r) 0 (not_done r) (sym e)

-- two reckoned answers with the same number and value are the same answer
pub reckoned_one : (a b : Result ℕ Refusal) → reckoned_said a ≡ reckoned_said b → a ≡ b
reckoned_one (Ok v) (Ok w) e = ap (λ (x : Answer). Ok (get_or x.values 0 0)) e
reckoned_one (Ok v) (Err s) e = absurd (apart s (ap (λ (x : Answer). x.number) e))
reckoned_one (Err r) (Ok w) e = absurd (apart r (sym (ap (λ (x : Answer). x.number) e)))
reckoned_one (Err r) (Err s) e = ap (λ (x : Refusal). Err x) (same_number r s (ap (λ (x : Answer). x.number) e))

fix_same : (a b : Result ℕ Refusal) (o p : Buffers) → fix_said a o ≡ fix_said b p → a ≡ b
fix_same (Ok n) (Ok m) o p e = ap (λ (x : Correction). Ok x.flips) e
fix_same (Ok n) (Err s) o p e = absurd (apart s (ap (λ (x : Correction). x.number) e))
fix_same (Err r) (Ok m) o p e = absurd (apart r (sym (ap (λ (x : Correction). x.number) e)))
fix_same (Err r) (Err s) o p e = ap (λ (x : Refusal). Err x) (same_number r s (ap (λ (x : Correction). x.number) e))

-- two corrections with the same number, flips and buffers are the same answer with the same buffers: the same output, and the same places
pub fix_one : (a b : Result ℕ Refusal) (o p : Buffers) → fix_said a o ≡ fix_said b p → (a ≡ b) × (o ≡ p)
fix_one a b o p e = (fix_same a b o p e, ap (λ (x : Correction). x.buffers) e)
