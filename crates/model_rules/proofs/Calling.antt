-- Theorems of all-calls: one is answered exactly when the last command of its code and its draw say so, by the DF 11 over its code.
use Prim.Native.Nat.{ℕ, ◌≤◌}
use native.Mathlib.Omega.{arith}
use mathlib.Core.Path.{◌≡◌, refl, ap}
use mathlib.Core.Bool.{Bool, true, false, ◌&&◌, ◌||◌, not}
use mathlib.Core.List.{List}
use lib.Dec.{eqb, leb, ltb}
use lib.ListN.{replicate}
use borrow.Author.Tests.{eqb-true, eqb-false, leb-true, le-leb}
use Rattle.std.specs.Prelude.{Option, Some, None}
use Rattle.lists.specs.Lists.{pick}
use Rattle.lists.proofs.Tests.{and_true}
use Rattle.lists.specs.Checks.{checked}
use Rattle.frames_rules.specs.Building.{all_call_reply_ranged, an_all_call_reply, all_call_replying}
use Rattle.frames_rules.specs.Shared.{of_si, si_number, code_for}
use Rattle.frames_rules.specs.declared.answers.Interrogator.{Interrogator}
use Rattle.frames_rules.specs.declared.answers.Interrogator.TheVariants.{II, SI}
use Rattle.model_rules.specs.Answers.{Sent}
use Rattle.model_rules.specs.declared.state.Transponder.{Transponder}
use Rattle.model_rules.specs.Lapse.{lapse}
use Rattle.model_rules.specs.Replies.{silence, sent_bytes, sending, draws_below, answers_free, answers_code, answers, answer_all_call}
use Rattle.model_rules.specs.History.{Aircraft, made, Call, after}
use Rattle.model_rules.specs.Seen.{ACode, told}
use Rattle.model_rules.specs.Replied.{answers_at, answers_to, call_on}
use Rattle.model_rules.proofs.Keeping.{kept_lapse, always_kept}
use Rattle.model_rules.proofs.Locked.{locked_exactly}
use Rattle.model_rules.proofs.Responding.{ranges}

-- the code of a CL and an IC: nobody's, or one of the 79 with CL and IC in their ranges
abbrev Coded : ℕ → ℕ → Option Interrogator → Type 0
Coded cl ic None = Unit {0}
Coded cl ic (Some (II n)) = ACode (II n) × ((leb cl 7 ≡ true) × (leb ic 15 ≡ true))
Coded cl ic (Some (SI n)) = ACode (SI n) × ((leb cl 7 ≡ true) × (leb ic 15 ≡ true))

coded : (cl ic : ℕ) → Coded cl ic (code_for cl ic)
unfolding code_for
coded cl ic = go (leb ic 15) refl (eqb cl 0) refl (of_si cl) refl (eqb (si_number cl ic) 0) refl
  where
    go : (x : Bool) → leb ic 15 ≡ x → (y : Bool) → eqb cl 0 ≡ y → (z : Bool) → of_si cl ≡ z → (w : Bool) → eqb (si_number cl ic) 0 ≡ w
        → Coded cl ic (pick x (pick y (Some (II ic)) (pick (z && not w) (Some (SI (si_number cl ic))) None)) None)
    go false p y q z s w v = tt
    go true p true q z s w v = (leb-true ic 15 p, (ap (λ (n : ℕ). leb n 7) (eqb-true cl 0 q), p))
    go true p false q true s false v =
        let l = leb-true cl 4 (and_true (leb 1 cl) (leb cl 4) s).1 in
        let n = eqb-false (si_number cl ic) 0 v in
        let c = leb-true ic 15 p in
        ((omega arith, omega arith), (le-leb cl 7 (omega arith), p))
    go true p false q true s true v = tt
    go true p false q false s w v = tt

module _ (a : Aircraft) (m : (made a).number ≡ 0) (cs : List Call) (time draw pr ic cl : ℕ) (p : (told a cs).time ≤ time) where
  abbrev called : Transponder
  called = lapse time (after a cs)

  abbrev answering : Sent
  answering = sending (all_call_replying called.ca called.address cl ic (replicate 7 0))

  abbrev eleven : Sent
  eleven = sent_bytes (an_all_call_reply a.ca a.address cl ic)

  built : (leb cl 7 ≡ true) × (leb ic 15 ≡ true) → answering ≡ eleven
  unfolding checked all_call_replying all_call_reply_ranged sending
  built c =
      let k = kept_lapse a time (after a cs) (always_kept a m cs) in
      let r = ranges a k.ranged in
      rw (k.same.ca, k.same.address, r.ca_in, r.address_in, c.0, c.1)

  -- the lock is told by the last command
  free_is : (c : Interrogator) → ACode c → answers_free pr draw c called ≡ answers_at a cs time draw pr c
  free_is c ok = ap (λ (b : Bool). (leb 8 pr || not b) && ltb draw (draws_below pr)) (locked_exactly a c ok m cs time p)

  answered : (c : Option Interrogator) → Coded cl ic c
      → pick (answers_code pr draw called c) answering silence ≡ pick (answers_to a cs time draw pr c) eleven silence
  answered None k = refl
  answered (Some (II n)) k = rw (free_is (II n) k.0, built k.1)
  answered (Some (SI n)) k = rw (free_is (SI n) k.0, built k.1)

  pub told_call : answer_all_call pr ic cl draw called ≡ call_on a cs time draw pr ic cl
  unfolding answer_all_call answers
  told_call = answered (code_for cl ic) (coded cl ic)
