-- Theorem of replies: to every frame of a history exactly the bytes are sent that the calls alone tell, or none.
use Prim.Native.Nat.{ℕ, ◌≤◌}
use mathlib.Core.Path.{◌≡◌, refl, sym, ap, ◌∙◌, subst}
use mathlib.Core.Bool.{Bool, true, false}
use mathlib.Core.List.{List, ◌∷◌}
use lib.Dec.{eqb}
use borrow.Author.Tests.{eqb-true, eqb-false}
use Rattle.std.specs.Prelude.{Result, Ok, Err}
use Rattle.lists.specs.Lists.{pick}
use Rattle.refusals.specs.declared.refusal.Refusal.{Refusal}
use Rattle.frames_rules.specs.Interrogations.{up_of}
use Rattle.frames_rules.specs.declared.answers.Up.{Up}
use Rattle.frames_rules.specs.declared.answers.Up.TheVariants as up
use Rattle.model_rules.specs.Answers.{Took, Went}
use Rattle.model_rules.specs.declared.state.Transponder.{Transponder}
use Rattle.model_rules.specs.Lapse.{lapse}
use Rattle.model_rules.specs.Replies.{silence, sent_bytes, answer_all_call}
use Rattle.model_rules.specs.Calls.{interrogated, time_alone, laid_over, selective_comes, all_call_comes, comes, taking}
use Rattle.model_rules.specs.History.{Aircraft, made, Call, take, after}
use Rattle.model_rules.specs.Kept.{Kept}
use Rattle.model_rules.specs.Story.{Told}
use Rattle.model_rules.specs.Seen.{number_on, told}
use Rattle.model_rules.specs.Replied.{reply_on, call_on, sent_on, sent_to}
use Rattle.model_rules.specs.Demands.{sent_by}
use Rattle.model_rules.proofs.Came.{taken_is, refusal_sends_nothing}
use Rattle.model_rules.proofs.Keeping.{kept_lapse, always_kept}
use Rattle.model_rules.proofs.Telling.{Agree, agree_always, numbers}
use Rattle.model_rules.proofs.Responding.{always_drawn, told_response}
use Rattle.model_rules.proofs.Calling.{told_call}

module _ (a : Aircraft) (m : (made a).number ≡ 0) (cs : List Call) (time draw : ℕ) (f : List ℕ) where
  abbrev lapsed : Transponder
  lapsed = lapse time (after a cs)

  -- the story after it
  abbrev then : Told
  then = told a (take time draw f ∷ cs)

  -- a frame that is not refused
  module _ (n : (taking (after a cs) time draw f).number ≡ 0) where
    abbrev Left : Transponder → Type 0
    Left u = Kept a u × Agree u then

    left : Left (comes draw lapsed (up_of f)).transponder
    unfolding after
    left =
        subst Left (ap (λ (x : Took). x.transponder) (taken_is (after a cs) time draw f n).1)
        (always_kept a m (take time draw f ∷ cs), agree_always a m (take time draw f ∷ cs))

    when : (told a cs).time ≤ time
    when = rw (agree_always a m cs).clock at (taken_is (after a cs) time draw f n).0

    by_case : (x : Result Up Refusal) → up_of f ≡ x → Left (comes draw lapsed x).transponder → (comes draw lapsed x).sent ≡ sent_on a then cs time draw x
    unfolding comes selective_comes interrogated all_call_comes
    by_case (Ok (up.Selective uf pc rr di sd ma r)) e l =
        let same = (kept_lapse a time (after a cs) (always_kept a m cs)).same.address in
        go (laid_over lapsed.address r) l ∙ ap (λ (n : ℕ). pick (laid_over n r) (sent_bytes (reply_on a then uf rr di sd)) silence) same
      where
        go : (b : Bool) → let w = pick b (interrogated uf pc rr di sd lapsed) (time_alone lapsed) in
            Left w.transponder → w.sent ≡ pick b (sent_bytes (reply_on a then uf rr di sd)) silence
        go true l = told_response a _ l.0 _ l.1 uf rr di sd (always_drawn f uf pc rr di sd ma r e)
        go false l = refl
    by_case (Ok (up.AllCall pr ic cl r)) e l = go (laid_over 0xFFFFFF r)
      where
        go : (b : Bool) → let all : Went = record { transponder = lapsed; sent = answer_all_call pr ic cl draw lapsed } in
            (pick b all (time_alone lapsed)).sent ≡ pick b (call_on a cs time draw pr ic cl) silence
        go true = told_call a m cs time draw pr ic cl when
        go false = refl
    by_case (Err r) e l = refl

    comes_told : sent_by (taking (after a cs) time draw f) ≡ sent_on a then cs time draw (up_of f)
    comes_told = ap sent_by (taken_is (after a cs) time draw f n).1 ∙ by_case (up_of f) refl left

  pub always_sent : sent_by (taking (after a cs) time draw f) ≡ sent_to a cs time draw f
  unfolding sent_to
  always_sent = go (eqb (number_on (told a cs) c) 0) refl
    where
      c : Call
      c = take time draw f

      go : (b : Bool) → eqb (number_on (told a cs) c) 0 ≡ b → sent_by (taking (after a cs) time draw f) ≡ pick b (sent_on a then cs time draw (up_of f)) silence
      go true e = comes_told (numbers a m cs c ∙ eqb-true (number_on (told a cs) c) 0 e)
      go false e = refusal_sends_nothing (after a cs) time draw f (λ q. eqb-false (number_on (told a cs) c) 0 e (sym (numbers a m cs c) ∙ q))
