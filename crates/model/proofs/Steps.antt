-- What each step comes to, check by check, over plain variables.
use Prim.Native.Nat.{ℕ, ◌<◌, ◌≤◌}
use native.Mathlib.Omega.{arith}
use mathlib.Core.Path.{◌≡◌, sym, ap, ◌∙◌}
use mathlib.Core.Bool.{Bool, true, false}
use mathlib.Core.List.{List}
use lib.ListN.{replicate}
use Rattle.std.specs.Prelude.{Option, Some, None, Result}
use Rattle.lists.proofs.Checks.{tests}
use Rattle.refusals.specs.declared.refusal.Refusal.{Refusal}
use Rattle.frames_rules.specs.Answers.{up_said}
use Rattle.frames_rules.specs.Building.{replying, all_call_replying}
use Rattle.frames_rules.specs.Shared.{code_for}
use Rattle.frames_rules.specs.Formats.{length_of}
use Rattle.frames_rules.specs.Shared.{drawn}
use Rattle.frames_rules.specs.Reading.{read_up}
use Rattle.frames_rules.specs.declared.answers.Up.{Up}
use Rattle.frames_rules.specs.Interrogations.{up_of}
use Rattle.frames_rules.proofs.Interrogations.{up_is}
use Rattle.frames_rules.specs.declared.answers.Interrogator.{Interrogator}
use Rattle.model_rules.specs.declared.state.Transponder.{Transponder}
use Rattle.model_rules.specs.Answers.{Took, Sent, Went}
use Rattle.model_rules.specs.State.{held_since, waits, with_holder}
use Rattle.model_rules.specs.Lapse.{lapse}
use Rattle.model_rules.specs.Lockout.{iis}
use Rattle.model_rules.specs.CommB.{asks_to_hold, nobody_else, reserve}
use Rattle.model_rules.specs.Replies.{silence, sending, dr_of, um_of, mb_of, value_of, respond, answers_code, answers, answer_all_call}
use Rattle.model_rules.specs.Calls.{went, interrogated, time_alone, laid_over, selective_comes, all_call_comes, comes, is_taken}

-- ---- reservation
module _ (di sd : ℕ) (t : Transponder) where
  pub not_asked : asks_to_hold di sd ≡ false → t ≡ reserve di sd t
  unfolding reserve
  not_asked a = rw a

  module _ (a : asks_to_hold di sd ≡ true) where
    pub none_waits : waits t.messages ≡ false → t ≡ reserve di sd t
    unfolding reserve
    none_waits w = rw (a, w)

    module _ (w : waits t.messages ≡ true) (ii : ℕ) (i : ii ≡ iis sd) where
      pub another_holds : nobody_else ii t.holder ≡ false → t ≡ reserve di sd t
      unfolding reserve
      another_holds n = rw (a, w, ← i, n)

      pub reserved : (u : Transponder) → nobody_else ii t.holder ≡ true → u ≡ with_holder (held_since ii t.time) t → u ≡ reserve di sd t
      unfolding reserve
      reserved u n e = rw (a, w, ← i, n) e

-- ---- replies
pub responded : (s : Sent) (t : Transponder) (uf rr di sd df dr um value mb : ℕ) → drawn uf rr ≡ Some df → dr ≡ dr_of t.messages
    → um ≡ um_of di sd t.holder → value ≡ value_of uf t → mb ≡ mb_of rr di sd t.messages
    → s ≡ sending (replying df t.fs dr um value mb t.address (replicate (length_of df) 0)) → s ≡ respond uf rr di sd t
unfolding respond
responded s t uf rr di sd df dr um value mb d p q r m e = rw d (e ∙ (rw (p, q, r, m)))

pub not_drawn : (s : Sent) (t : Transponder) (uf rr di sd : ℕ) → drawn uf rr ≡ None → s ≡ silence → s ≡ respond uf rr di sd t
unfolding respond
not_drawn s t uf rr di sd d e = rw d e

module _ (s : Sent) (t : Transponder) (pr ic cl draw : ℕ) (x : Option Interrogator) (b : Bool) (p : x ≡ code_for cl ic) (q : b ≡ answers_code pr draw t x) where
  pub unanswered : b ≡ false → s ≡ silence → s ≡ answer_all_call pr ic cl draw t
  unfolding answer_all_call answers
  unanswered h e = let z : answers_code pr draw t (code_for cl ic) ≡ false = ap (answers_code pr draw t) (sym p) ∙ sym q ∙ h in rw z e

  pub answered : b ≡ true → s ≡ sending (all_call_replying t.ca t.address cl ic (replicate 7 0)) → s ≡ answer_all_call pr ic cl draw t
  unfolding answer_all_call answers
  answered h e = let z : answers_code pr draw t (code_for cl ic) ≡ true = ap (answers_code pr draw t) (sym p) ∙ sym q ∙ h in rw z e

-- ---- a frame
module _ (t : Transponder) (uf pc rr di sd r : ℕ) (w : Went) where
  pub not_for_it : laid_over t.address r ≡ false → w ≡ time_alone t → w ≡ selective_comes uf pc rr di sd r t
  unfolding selective_comes
  not_for_it h e = rw h e

  pub for_it : laid_over t.address r ≡ true → w ≡ interrogated uf pc rr di sd t → w ≡ selective_comes uf pc rr di sd r t
  unfolding selective_comes
  for_it h e = rw h e

module _ (t : Transponder) (pr ic cl r draw : ℕ) (w : Went) where
  pub not_for_all : laid_over 0xFFFFFF r ≡ false → w ≡ time_alone t → w ≡ all_call_comes pr ic cl r draw t
  unfolding all_call_comes
  not_for_all h e = rw h e

  pub for_all : (s : Sent) → laid_over 0xFFFFFF r ≡ true → s ≡ answer_all_call pr ic cl draw t → w ≡ went t s → w ≡ all_call_comes pr ic cl r draw t
  unfolding all_call_comes
  for_all s h e q = rw (h, ← e) q

-- what was read is what the frame is
module _ (f : List ℕ) (x : Result Up Refusal) (z : up_said x ≡ read_up f) (draw : ℕ) (t : Transponder) where
  pub comes_as : (w : Went) (y : Result Up Refusal) → x ≡ y → w ≡ comes draw t y → w ≡ comes draw t (up_of f)
  comes_as w y e h = h ∙ ap (comes draw t) (sym e ∙ up_is f x z)

pub took_is : (r : Took) (w : Went) (u t : Transponder) (time draw : ℕ) (x : Result Up Refusal) → u ≡ lapse time t → w ≡ comes draw u x → r ≡ is_taken w
    → r ≡ is_taken (comes draw (lapse time t) x)
took_is r w u t time draw x p q e = e ∙ ap is_taken (q ∙ ap (λ (v : Transponder). comes draw v x) p)

-- ---- a line on how many wait, from a count of them
pub told_least : {r n k : ℕ} → r ≡ n → k ≤ r → k ≤ n
told_least e h = omega arith

pub told_below : {r n k : ℕ} → r ≡ n → r < k → n < k
told_below e h = omega arith

pub ruleset counted = (tests, told_least, told_below)
