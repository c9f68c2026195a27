-- `read` answers as the definition does: each return by the tests that led there.
use Prim.Native.Nat.{ℕ, ◌+◌, ◌*◌, ◌≤◌}
use native.Mathlib.Omega.{arith}
use mathlib.Core.Path.{◌≡◌, sym, ap, ◌∙◌}
use Rattle.std.specs.Prelude.{Ok}
use lib.IntN.{ℤ, sub_ℕ}
use Rattle.lists.proofs.Signed.{minus_kept}
use Rattle.altitude_rules.specs.Code.{M, Q, group, hundreds, five_hundreds, feet_by_25, feet_by_100}
use Rattle.altitude_rules.specs.declared.code.Altitude.TheVariants.{Feet}
use Rattle.altitude_rules.proofs.Answers.{says_range, says_none, says_metric, says_by25, says_illegal, says_by100, altitude_told_is}
use Rattle.altitude.proofs.code.read.Goals as goal
use Rattle.altitude.proofs.code.read.Goals.{Else-ac-eq0, Else-bit-eq1, Else-bit-eq1-2, Start}

in-range : (c : Else-ac-eq0) → c.args.ac ≤ 8191
in-range c = c.if-ac-gt-MOST.false

not-zero : (c : Else-ac-eq0) → c.args.ac ≡ 0 → ⊥
not-zero c = c.if-ac-eq0.false

not-metric : (c : Else-bit-eq1) → M c.args.ac ≡ 1 → ⊥
not-metric c e = c.if-bit-eq1.false (c.bit.ensures.0 ∙ e)

not-25 : (c : Else-bit-eq1-2) → Q c.args.ac ≡ 1 → ⊥
not-25 c e = c.if-bit-eq1-2.false (c.bit-2.ensures.0 ∙ e)

pub returns-then-ac-gt-MOST : goal.returns-then-ac-gt-MOST
returns-then-ac-gt-MOST c = altitude_told_is _ _ (says_range _ c.if-ac-gt-MOST.true)

pub returns-then-ac-eq0 : goal.returns-then-ac-eq0
returns-then-ac-eq0 c = altitude_told_is _ _ (says_none _ c.if-ac-gt-MOST.false c.if-ac-eq0.true)

pub returns-then-bit-eq1 : goal.returns-then-bit-eq1
returns-then-bit-eq1 c = altitude_told_is _ _ (says_metric _ (in-range search) (not-zero search) (sym c.bit.ensures.0 ∙ c.if-bit-eq1.true))

pub returns-then-bit-eq1-2 : goal.returns-then-bit-eq1-2
unfolding feet_by_25
returns-then-bit-eq1-2 c =
    let s = c in
    let ac = s.args.ac in
    let q = c in
    let n = c.eleven_bits in
    altitude_told_is ac _
    (ap (λ (z : ℤ). Ok (Feet z))
    (minus_kept (25 * n.result) 1000 (omega arith) (omega arith) c.signed.result c.signed.ensures ∙ ap (λ (k : ℕ). sub_ℕ (25 * k) 1000) n.ensures.0)
    ∙ says_by25 ac (in-range search) (not-zero search) (not-metric search) (sym q.bit-2.ensures.0 ∙ q.if-bit-eq1-2.true))

pub returns-then-c-eq0 : goal.returns-then-c-eq0
returns-then-c-eq0 c =
    altitude_told_is _ _
    (says_illegal _ (in-range search) (not-zero search) (not-metric search) (not-25 search)
    (sym c.pattern-c.ensures.0 ∙ c.if-c-eq0.true))

pub returns : goal.returns
unfolding feet_by_100
returns c =
    let s = c in
    let ac = s.args.ac in
    let p = c in
    let legal = c in
    let m = c in
    let n = m.five_hundreds-n in
    let h = c.hundreds_in in
    let up : 500 * n.result + 100 * h.result ≡ 500 * five_hundreds ac + 100 * hundreds (five_hundreds ac) (group ac) =
    simp (h.ensures.0, n.ensures.0, p.pattern-c.ensures.0) in
    altitude_told_is ac _
    (ap (λ (z : ℤ). Ok (Feet z))
    (minus_kept (500 * n.result + 100 * h.result) 1300 (omega arith) (omega arith) c.signed-2.result c.signed-2.ensures
    ∙ ap (λ (k : ℕ). sub_ℕ k 1300) up)
    ∙ says_by100 ac (in-range search) (not-zero search) (not-metric search) (not-25 search)
    (λ z. legal.if-c-eq0.false (p.pattern-c.ensures.0 ∙ z)))
