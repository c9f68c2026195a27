-- `parity::syndrome::syndrome_of` meets its contract. The invariant: r is the syndrome of x^k less the bytes that are left.
use Rattle.std.proofs.Common.{◌≡◌, refl, ap, ◌∙◌, [], ◌∷◌, ℕ, zero, suc, ◌+◌, ◌*◌, ◌/◌, ◌%◌, ◌-◌, ◌^◌, ◌<◌, arith, replicate}
use Rattle.lists.proofs.Table.{alike}
use Rattle.parity_rules.specs.Messages.{byte_then}
use Rattle.parity_rules.specs.Division.{syndrome, remainder_of, divide, shift_in}
use Rattle.parity_rules.proofs.Linear.{divide_lt}
use Rattle.parity_rules.proofs.Sum.{zeros_are}
use Rattle.parity.proofs.syndrome.syndrome_of.Goals as goal
use Rattle.parity.proofs.syndrome.syndrome_of.Goals.{then-k-lt24, else-k-lt24}

-- a power below x^24 is its own syndrome
own : (t : ℕ) → t < 24 → 1 * 2 ^ t % 4294967296 ≡ syndrome t
unfolding syndrome remainder_of divide shift_in
own t h = alike (λ (x : ℕ). 1 * 2 ^ x % 4294967296) syndrome 24 t refl h

syndrome_lt : (k : ℕ) → syndrome k < 16777216
unfolding syndrome remainder_of divide shift_in
syndrome_lt k = divide_lt (replicate k 0) (zeros_are k) 1 (omega arith)

-- eight zeros behind k zeros, and so a byte of zeros behind x^k: x^(k + 8)
zeros_on : (k r : ℕ) → divide (divide r (replicate k 0)) (byte_then 0 []) ≡ divide r (0 ∷ 0 ∷ 0 ∷ 0 ∷ 0 ∷ 0 ∷ 0 ∷ 0 ∷ replicate k 0)
unfolding divide
zeros_on zero r = refl
zeros_on (suc k) r = zeros_on k (shift_in r 0)

moved : (k : ℕ) → divide (syndrome k) (byte_then 0 []) ≡ syndrome (k + 8)
unfolding syndrome remainder_of divide
moved k =
    let e : suc (suc (suc (suc (suc (suc (suc (suc k))))))) ≡ k + 8 = omega arith in
    zeros_on k (shift_in 0 1) ∙ ap syndrome e

-- the power begun with is below x^24, and whole bytes below x^k
pub loop-init : goal.loop-init
loop-init c =
    let k = c.args.k in
    let at = c.if-k-lt24.at in
    let b : (at < 24) × (k - 8 * (k / 8 - 2) ≡ at) = elim c.if-k-lt24.branch [
      | then-k-lt24 w ↦ (omega arith, omega arith)
      | else-k-lt24 w ↦ (omega arith, omega arith)
    ] in
    rw b.1 (own at b.0)

pub byte_in-r-requires : goal.byte_in-r-requires
byte_in-r-requires c = rw c.loop.invariant (syndrome_lt _)

pub loop-preserved : goal.loop-preserved
loop-preserved c =
    let k = c.args.k in
    let e : k - 8 * (k / 8 - c.loop.counter) + 8 ≡ k - 8 * (k / 8 - (c.loop.counter + 1)) = omega arith in
    c.byte_in-r.ensures.0 ∙ ap (λ (r : ℕ). divide r (byte_then 0 [])) c.loop.invariant ∙ moved _ ∙ ap syndrome e

pub returns : goal.returns
returns c =
    let k = c.args.k in
    let e : k - 8 * (k / 8 - c.loop.counter) ≡ k = omega arith in rw e at c.loop.invariant
