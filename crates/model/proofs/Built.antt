-- What a builder of frames answered, as what is sent; and what parity answered, as who a frame is for.
use Prim.Native.Nat.{ℕ}
use native.Mathlib.Omega.{arith}
use mathlib.Core.Path.{◌≡◌, refl, sym, ap, ◌∙◌}
use mathlib.Core.Bool.{Bool, true, false, not, ◌&&◌}
use mathlib.Core.List.{List, [], ◌∷◌}
use lib.Dec.{eqb, ltb}
use lib.ListN.{get_or}
use Rattle.std.specs.Prelude.{Option, Some, None, Result, Ok, Err}
use Rattle.std.specs.Result.{result_ok}
use Rattle.std.proofs.lemmas.Option.{none-some}
use Rattle.lists.specs.Lists.{pick}
use Rattle.lists.specs.Checks.{checked}
use Rattle.lists.specs.Answers.{Answer, done, refusal}
use Rattle.refusals.specs.declared.refusal.Refusal.{Refusal}
use Rattle.refusals.specs.Refusals.{number_of}
use Rattle.refusals.proofs.Numbers.{not_done}
use Rattle.parity_rules.specs.Answers.{reckoned_said}
use Rattle.parity_rules.proofs.Unique.{apart}
use Rattle.parity_rules.specs.Overlays.{overlay_of, uplink_overlay}
use Rattle.frames_rules.specs.Answers.{Building, built_said}
use Rattle.model_rules.specs.Replies.{silence, sent_bytes, sending}
use Rattle.model_rules.specs.Calls.{laid_over}

-- ---- a frame that was built, or not
module _ (r : Result (Unit {0}) Refusal) (b : List ℕ) (o : Building) (s : built_said r b ≡ o) {k : Option (Unit {0})} (h : k ≡ result_ok r) where
  pub sent_done : {u : Unit {0}} → k ≡ Some u → sent_bytes b ≡ sending o
  unfolding sending
  sent_done e = rw (← s) (go r (sym h ∙ e))
    where
      go : (r : Result (Unit {0}) Refusal) {u : Unit {0}} → result_ok r ≡ Some u → sent_bytes b ≡ sending (built_said r b)
      go (Ok u) e = refl
      go (Err x) e = absurd (none-some _ e)

  pub sent_refused : k ≡ None → silence ≡ sending o
  unfolding sending
  sent_refused e = rw (← s) (go r (sym h ∙ e))
    where
      go : (r : Result (Unit {0}) Refusal) → result_ok r ≡ None → silence ≡ sending (built_said r b)
      go (Ok u) e = absurd (none-some u (sym e))
      go (Err x) e = rw (not_done x)

-- ---- an overlay that was reckoned, or not
module _ (x : Result ℕ Refusal) (a m : ℕ) (s : reckoned_said x ≡ uplink_overlay a) where
  pub over_is : (v : ℕ) → x ≡ Ok v → eqb m v ≡ laid_over a m
  unfolding checked laid_over uplink_overlay
  over_is v e = go (ltb a 0x1000000) (ap reckoned_said (sym e) ∙ s)
    where
      go : (b : Bool) → done (v ∷ []) ≡ pick (not b) (refusal 2) (done (overlay_of a ∷ [])) → eqb m v ≡ b && eqb m (overlay_of a)
      go true h = ap (λ (k : Answer). eqb m (get_or k.values 0 0)) h
      go false h = let z : ◌≡◌ {A = ℕ} 0 2 = ap (λ (k : Answer). k.number) h in absurd (omega arith)

  pub over_refused : (r : Refusal) → x ≡ Err r → false ≡ laid_over a m
  unfolding checked laid_over uplink_overlay
  over_refused r e = go (ltb a 0x1000000) (ap reckoned_said (sym e) ∙ s)
    where
      go : (b : Bool) → refusal (number_of r) ≡ pick (not b) (refusal 2) (done (overlay_of a ∷ [])) → false ≡ b && eqb m (overlay_of a)
      go true h = absurd (apart r (sym (ap (λ (k : Answer). k.number) h)))
      go false h = refl
