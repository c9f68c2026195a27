-- Demand 2, replies: what a taken reply writes is the one message that its marks allow over the entry's address, of the expected format.
use borrow.Author.Tests.{eqb-true, eq-eqb, not-false}
use Prim.Native.Nat.{ℕ, ◌≤◌}
use lib.ListN.{length}
use native.Mathlib.Omega.{arith}
use mathlib.Core.Bool.{true}
use mathlib.Core.Logic.{⊎_elim}
use mathlib.Core.List.{map}
use mathlib.Core.Path.{◌≡◌, refl, sym, ap, subst, ◌∙◌}
use Rattle.std.specs.Prelude.{Ok}
use Rattle.lists.specs.Lists.{Among}
use Rattle.lists.specs.Checks.{given}
use Rattle.lists.proofs.Checks.{Passed, passed_first, passed_last, passed_both, zero_passed, given_first, given_last, given_part}
use Rattle.lists.proofs.Checks.{all, past, end, clear, not_off}
use Rattle.parity_rules.specs.Answers.{Buffers, Correction, fix_said, not_corrected}
use Rattle.parity_rules.specs.Correction.{sized, mark_checks, correction_checks, correction}
use Rattle.parity_rules.specs.Messages.{AreBytes}
use Rattle.parity_rules.specs.Places.{places_in, places_told}
use Rattle.parity_rules.proofs.Outcomes as parity
use Rattle.parity_rules.proofs.Sizes.{Small, outcome_small}
use Rattle.frames_rules.specs.Reading.{format_of}
use Rattle.station_rules.specs.declared.state.Station.{Station}
use Rattle.station_rules.specs.Answers.{Reply}
use Rattle.station_rules.specs.Replies.{expected, Received, request_for, matches_for, open_checks, entry_checks, format_checks, corrected_checks, settle_checks}
use Rattle.station_rules.specs.Replies.{corrected, Replied, told, taken_as, replied}
use Rattle.station_rules.specs.History.{reply}
use Rattle.station_rules.specs.Demands.{Believed}
use Rattle.station_rules.proofs.Came.{given_by, passed_is, taken}

module _ (s : Station) (r : Received) (p : Passed (settle_checks s r)) where
  is_correction : fix_said (Ok (corrected s r).flips) (corrected s r).buffers ≡ correction r.message r.marks (request_for s r).address
      s.setup.limit r.buffers
  unfolding correction corrected_checks
  is_correction =
      end (not_corrected r.buffers) (corrected s r) all
      (passed_first (correction_checks r.message r.marks (request_for s r).address s.setup.limit r.buffers)
      (format_checks (expected (request_for s r)) r.message (matches_for (request_for s r) r)) p).none

  is_format : format_of (corrected s r).buffers.output ≡ expected (request_for s r)
  unfolding corrected_checks format_checks
  is_format =
      eqb-true (format_of (corrected s r).buffers.output) (expected (request_for s r))
      (not-false _
      ((passed_last (correction_checks r.message r.marks (request_for s r).address s.setup.limit r.buffers)
      (format_checks (expected (request_for s r)) r.message (matches_for (request_for s r) r)) p).off 14))

-- how much a taken reply tells: its flips are its places, at most 12 of them, in a buffer as long as it was
pub record PlacesTold (lent : Buffers) (a : Replied) : Type 0 where
  pub flips : a.flips ≡ length (places_in a.buffers.places)
  pub few : length (places_in a.buffers.places) ≤ 12
  pub same : length a.buffers.places ≡ length lent.places

pub places_told_is : (s : Station) (r : Received) → (replied s r).number ≡ 0 → PlacesTold r.buffers (replied s r)
places_told_is s r z =
    let t = taken s r z in
    let p = passed_last (entry_checks s r) (settle_checks s r) t.passed in
    let c = is_correction s r p in
    let f = subst (λ (o : Correction). o.flips ≡ length (places_told o)) (sym c) (parity.flips_told _ _ _ _ _) in
    let m = subst (Small r.buffers) (sym c) (outcome_small _ _ _ _ _) in
    rw t.is (record { flips = f; few = omega (arith, f, m.flips); same = m.places })

-- from what the call says
pub places_few : (s : Station) (r : Received) (x : Reply) (b : Buffers) → told x b ≡ replied s r → x.number ≡ 0 → length (places_in b.places) ≤ 12
places_few s r x b h z =
    subst (λ (a : Replied). length (places_in a.buffers.places) ≤ 12) (sym h)
    (places_told_is s r (sym (ap (λ (a : Replied). a.number) h) ∙ z)).few

pub believed : (s : Station) (r : Received) → AreBytes r.message → (replied s r).number ≡ 0 → Believed s r (replied s r)
believed s r bytes z =
    let t = taken s r z in
    let p = passed_last (entry_checks s r) (settle_checks s r) t.passed in
    rw t.is
    (record {
      corrected =
          parity.corrected r.message r.marks (request_for s r).address s.setup.limit r.buffers (corrected s r).buffers bytes
          (corrected s r).flips (is_correction s r p);
      format = is_format s r p;
    })

-- ---- what the correction of a reply says of the reply
-- 13 is the correction's
pub doubt_is : (s : Station) (r : Received) → (replied s r).number ≡ 13
    → (correction r.message r.marks (request_for s r).address s.setup.limit r.buffers).number ≡ 13
unfolding entry_checks open_checks corrected_checks format_checks
doubt_is s r e =
    let q = request_for s r in
    let cs = correction_checks r.message r.marks q.address s.setup.limit r.buffers in
    let g = given_last 13 (λ z. omega arith) (entry_checks s r) (settle_checks s r) refl (sym (given_by s (reply r)) ∙ e) in
    parity.number_is r.message r.marks q.address s.setup.limit r.buffers
    ∙ given_first 13 (λ z. omega arith) cs (format_checks (expected q) r.message (matches_for q r)) refl g

-- what is answered otherwise than by the checks before the correction has passed them
pub entered_by : (s : Station) (r : Received) → (Among (replied s r).number (map (λ c. c.number) (entry_checks s r)) → ⊥) → given (entry_checks s r) ≡ 0
entered_by s r n =
    ⊎_elim (λ z. z) (λ a. absurd (n (subst (λ (x : ℕ). Among x (map (λ c. c.number) (entry_checks s r))) (sym (given_by s (reply r))) a)))
    (given_part (entry_checks s r) (settle_checks s r))

-- one that 1, 7, 8, 9 and 10 do not refuse has buffers of the right lengths, and is taken with its correction where that one is taken and has the format
module _ (s : Station) (r : Received) (entered : given (entry_checks s r) ≡ 0) where
  pub reply_sized : sized (length r.message) (length r.marks) (length r.buffers.output) (length r.buffers.places) ≡ true
  unfolding entry_checks open_checks
  reply_sized = not-false _ ((zero_passed (entry_checks s r) refl entered).off 1)

  module _ (o : Correction) (is : correction r.message r.marks (request_for s r).address s.setup.limit r.buffers ≡ o)
      (zero_is : o.number ≡ 0) (format : format_of o.buffers.output ≡ expected (request_for s r)) where
    passes : Passed (correction_checks r.message r.marks (request_for s r).address s.setup.limit r.buffers)
    unfolding correction_checks mark_checks
    passes =
        zero_passed (correction_checks r.message r.marks (request_for s r).address s.setup.limit r.buffers) refl
        (sym (parity.number_is r.message r.marks (request_for s r).address s.setup.limit r.buffers)
        ∙ ap (λ (x : Correction). x.number) is ∙ zero_is)

    with_it : corrected s r ≡ o
    unfolding correction
    with_it = end (not_corrected r.buffers) (corrected s r) all passes.none ∙ is

    has_format : Passed (format_checks (expected (request_for s r)) r.message (matches_for (request_for s r) r))
    unfolding format_checks
    has_format = clear (past all (not_off _ (eq-eqb _ (expected (request_for s r)) (ap (λ (x : Correction). format_of x.buffers.output) with_it ∙ format))))

    pub taken_with : replied s r ≡ taken_as s r o
    unfolding entry_checks open_checks corrected_checks
    taken_with =
        passed_is s r
        (passed_both (entry_checks s r) (settle_checks s r) (zero_passed (entry_checks s r) refl entered)
        (passed_both (correction_checks r.message r.marks (request_for s r).address s.setup.limit r.buffers)
        (format_checks (expected (request_for s r)) r.message (matches_for (request_for s r) r)) passes has_format))
        ∙ ap (taken_as s r) with_it
