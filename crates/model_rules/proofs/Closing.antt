-- Theorems of Comm-B: what a reservation, a closeout and a delivery need.
use Prim.Native.Nat.{ℕ, ◌≤◌}
use native.Mathlib.Omega.{arith}
use mathlib.Core.Path.{◌≡◌, refl, ap}
use mathlib.Core.Bool.{Bool, true, false, ◌&&◌, true≢false}
use lib.Dec.{eqb}
use borrow.Author.Tests.{eqb-true, eq-eqb, ne_eqb, le-leb}
use Rattle.std.specs.Prelude.{Option, Some, None}
use Rattle.lists.specs.Lists.{pick}
use Rattle.lists.proofs.Tests.{and_true, and_yes, and_no_right}
use Rattle.model_rules.specs.declared.state.Holder.{Holder}
use Rattle.model_rules.specs.declared.state.Messages.{Messages}
use Rattle.model_rules.specs.declared.state.Transponder.{Transponder}
use Rattle.model_rules.specs.State.{held_since, waits, first_of}
use Rattle.model_rules.specs.Lockout.{iis, commanded, lockout}
use Rattle.model_rules.specs.CommB.{mbs, asks_to_hold, nobody_else, reserve, closes, closeout}
use Rattle.model_rules.specs.Replies.{bds2, mb_of}
use Rattle.model_rules.specs.Calls.{steps}

-- ---- "MBS 2 from the holder, or PC 4 while nobody holds it"
pub data ClosedBy (pc di sd : ℕ) : Option Holder → Type 0 where
  by_holder : (h : Holder) → di ≡ 1 → mbs sd ≡ 2 → iis sd ≡ h.ii → ClosedBy pc di sd (Some h)
  by_pc_4 : pc ≡ 4 → ClosedBy pc di sd None

-- a closeout needs one of them
pub closes_only : (pc di sd : ℕ) (h : Option Holder) → closes pc di sd h ≡ true → ClosedBy pc di sd h
closes_only pc di sd None e = by_pc_4 (eqb-true pc 4 e)
closes_only pc di sd (Some h) e =
    let a = and_true (eqb di 1 && eqb (mbs sd) 2) (eqb (iis sd) h.ii) e in
    let b = and_true (eqb di 1) (eqb (mbs sd) 2) a.0 in
    by_holder h (eqb-true di 1 b.0) (eqb-true (mbs sd) 2 b.1) (eqb-true (iis sd) h.ii a.1)

-- and each of them is one
pub closes_when : (pc di sd : ℕ) (h : Option Holder) → ClosedBy pc di sd h → closes pc di sd h ≡ true
closes_when pc di sd h (by_pc_4 e) = eq-eqb pc 4 e
closes_when pc di sd h (by_holder x p q r) =
    and_yes _ _ (and_yes _ _ (eq-eqb di 1 p) (eq-eqb (mbs sd) 2 q)) (eq-eqb (iis sd) x.ii r)

-- ---- "reserves for IIS 1-15 when a message waits and nobody else holds it"
pub nothing_to_reserve : (di sd : ℕ) (t : Transponder) → waits t.messages ≡ false → reserve di sd t ≡ t
unfolding reserve
nothing_to_reserve di sd t w = go (asks_to_hold di sd) (waits t.messages) w (nobody_else (iis sd) t.holder) _
  where
    go : (x y : Bool) → y ≡ false → (z : Bool) (u : Transponder) → pick (x && y && z) u t ≡ t
    go true true e z u = absurd (true≢false e)
    go true false e z u = refl
    go false y e z u = refl

-- MBS 1 from an II of 1 to 15 while a message waits and nobody else holds it: the II holds it, whatever PC is, and no message goes:
-- "who holds is read once, after the reservation, for both closeouts"
pub reserved_stays : (pc sd : ℕ) (t : Transponder) → mbs sd ≡ 1 → 1 ≤ iis sd → waits t.messages ≡ true → nobody_else (iis sd) t.holder ≡ true
    → ((steps pc 1 sd t).holder ≡ held_since (iis sd) t.time) × ((steps pc 1 sd t).messages ≡ t.messages)
unfolding steps lockout commanded reserve closeout
reserved_stays pc sd t m i w n =
    let a : asks_to_hold 1 sd ≡ true = and_yes _ _ (eq-eqb (mbs sd) 1 m) (le-leb 1 (iis sd) i) in
    let c : eqb (mbs sd) 2 ≡ false = ne_eqb (mbs sd) 2 (λ e. omega arith) in
    (rw (a, w, n, c), rw (a, w, n, c))

-- ---- "RR 16 with BDS2 zero delivers the first message, zeros if none; other registers read zero"
module _ (di sd : ℕ) (m : Messages) where
  pub delivers : bds2 di sd ≡ 0 → mb_of 16 di sd m ≡ first_of m
  delivers e = rw (eq-eqb (bds2 di sd) 0 e)

  pub other_bds2 : (rr : ℕ) → (bds2 di sd ≡ 0 → ⊥) → mb_of rr di sd m ≡ 0
  other_bds2 rr n = ap (λ (b : Bool). pick b (first_of m) 0) (and_no_right (eqb rr 16) (eqb (bds2 di sd) 0) (ne_eqb (bds2 di sd) 0 n))

  pub other_rr : (rr : ℕ) → (rr ≡ 16 → ⊥) → mb_of rr di sd m ≡ 0
  other_rr rr n = rw (ne_eqb rr 16 n)
