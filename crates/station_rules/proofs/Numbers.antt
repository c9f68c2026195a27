-- Demand 1, numbers: what a call of a history is given is what document 01's table says.
use borrow.Author.Tests.{ltb-true, leb-true, not-false}
use Prim.Native.Nat.{ℕ, ◌≤◌, ◌<◌}
use native.Mathlib.Omega.{arith}
use mathlib.Core.Path.{◌≡◌, refl, sym, ap, ◌∙◌}
use mathlib.Core.List.{List, [], ◌∷◌, ◌++◌}
use mathlib.Core.Bool.{Bool, true, not, ◌&&◌}
use lib.Dec.{leb}
use lib.ListN.{length}
use Rattle.lists.specs.Lists.{every}
use Rattle.lists.specs.Checks.{Check, check, checked, given}
use Rattle.lists.proofs.Checks.{join, under, Passed, all, past, rest, not_off}
use Rattle.lists.proofs.Each.{all_at}
use Rattle.lists.proofs.Tests.{and_left, and_right}
use Rattle.parity_rules.proofs.Judged.{ranged_in}
use Rattle.parity_rules.specs.Correction.{ranged, mark_checks, correction_checks}
use Rattle.planner_rules.specs.declared.request.Request.{Request}
use Rattle.planner_rules.specs.declared.setup.Setup.{Setup}
use Rattle.planner_rules.specs.Shares.{in_range, setup_number}
use Rattle.planner_rules.proofs.Demand3.{setup_in}
use Rattle.station_rules.specs.declared.state.Station.{Station}
use Rattle.station_rules.specs.State.{in_list, entries_of, no_entry}
use Rattle.station_rules.specs.Calls.{request_ranged, sixteen_wait, unit_full, request_checks}
use Rattle.station_rules.specs.Replies.{Received, expected, request_numbered, request_for, matches_for, entry_checks, format_checks, corrected_checks}
use Rattle.station_rules.specs.Replies.{settle_checks}
use Rattle.station_rules.specs.History.{Call, setup, new, remove, move, request, plan, reply, report, answer, after, checks_of}
use Rattle.station_rules.specs.Numbers.{checks}
use Rattle.station_rules.specs.Kept.{Entered, Kept}
use Rattle.station_rules.proofs.Came.{given_by}
use Rattle.station_rules.proofs.Keeping.{always_kept, request_in, six}

abbrev number_in : Check → ℕ
number_in c = c.number

-- ---- a request: in a history the slots never run out before a unit has 16 waiting
request_given : (cs : List Call) (q : Request)
    → given (request_checks (unit_full q.unit (after cs).waiting) (after cs) q) ≡ given
    (request_checks (sixteen_wait q.unit (after cs).waiting) (after cs) q)
unfolding checked request_checks
request_given cs q =
    under (check 2 (not (request_ranged q)) ∷ check 4 (not (in_list q.address (after cs).targets)) ∷ []) number_in
    (given (check 6 (unit_full q.unit (after cs).waiting) ∷ [])) (given (check 6 (sixteen_wait q.unit (after cs).waiting) ∷ []))
    (λ p. ap (λ (b : Bool). given (check 6 b ∷ [])) (six cs q.unit (request_in q (not-false (request_ranged q) (p.off 2))).0))

-- ---- a reply: in a history the address of an entry and the station's limit are in the ranges of a correction
-- an accepted setup has a limit of 0 to 12
pub limit_in : (h : Setup) → setup_number h ≡ 0 → h.limit ≤ 12
limit_in h e =
    leb-true h.limit 12
    (and_right (leb h.reach 13000) (leb h.limit 12)
    (and_left (leb h.reach 13000 && leb h.limit 12) (every (in_range h.guarantee) 8)
    (and_left _ (every (in_range h.ceiling) 8) (setup_in h e))))

overlay_in : (s : Station) → Kept s → (k : ℕ) → k < length (entries_of s.plan) → ranged (request_numbered k s).address s.setup.limit ≡ true
overlay_in s h k l =
    let r = (all_at (Entered s.targets) (entries_of s.plan) no_entry k h.entries l).0 in
    let a = (request_in (request_numbered k s) r).1.address_is.1 in
    ranged_in (request_numbered k s).address s.setup.limit (omega (arith, a)) (limit_in s.setup h.shares)

module _ (s : Station) (h : Kept s) (r : Received) where
  -- the lines of the correction, and of the format, that a history meets
  abbrev met : List Check
  met =
      mark_checks r.message r.marks (request_for s r).address s.setup.limit
      ++ format_checks (expected (request_for s r)) r.message (matches_for (request_for s r) r)

  corrected_given : Passed (entry_checks s r) → given (settle_checks s r) ≡ given met
  unfolding entry_checks corrected_checks correction_checks
  corrected_given p =
      sym
      (rest number_in 0
      (past (past all (p.off 1))
      (not_off (ranged (request_for s r).address s.setup.limit) (overlay_in s h r.entry (ltb-true r.entry _ (not-false _ (p.off 7)))))))

  reply_given : given (checks_of s (reply r)) ≡ given (checks s (reply r))
  reply_given =
      join (entry_checks s r) (settle_checks s r) number_in 0
      ∙ under (entry_checks s r) number_in _ (given met) corrected_given
      ∙ sym (join (entry_checks s r) met number_in 0)

-- ---- the theorem
table_given : (cs : List Call) (c : Call) → given (checks_of (after cs) c) ≡ given (checks (after cs) c)
table_given cs (setup h) = refl
table_given cs (new a near far) = refl
table_given cs (remove a) = refl
table_given cs (move a near far) = refl
table_given cs (request q) = request_given cs q
table_given cs (plan tag) = refl
table_given cs (reply r) = reply_given (after cs) (always_kept cs) r
table_given cs (report a) = refl

pub numbers : (cs : List Call) (c : Call) → (answer (after cs) c).number ≡ given (checks (after cs) c)
numbers cs c = given_by (after cs) c ∙ table_given cs c
