-- What a call can come to: it is refused by the first of its checks that is the case and leaves all as it was, or it is done, and then no check is the case.
use mathlib.Core.Path.{◌≡◌, refl, sym, ap, ◌∙◌}
use mathlib.Core.Bool.{true}
use Rattle.lists.specs.Checks.{checked, given, numbered}
use Rattle.lists.proofs.Checks.{view, join, Passed, CameTo, was_refused, was_done, came_to, all, end}
use Rattle.planner_rules.specs.Shares.{setup_checks}
use Rattle.station_rules.specs.declared.state.Station.{Station}
use Rattle.station_rules.specs.Answers.{Outcome}
use Rattle.station_rules.specs.Calls.{refused, leaves, set_up, new_target_checks, new_target, held_checks, removed, move_checks, moved, request_checks}
use Rattle.station_rules.specs.Calls.{requested}
use Rattle.station_rules.specs.Calls.{not_reported, report_held, reported}
use Rattle.station_rules.specs.Replies.{Received, Replied, entry_checks, corrected_checks, settle_checks, refused_reply, taken_as, corrected}
use Rattle.station_rules.specs.Replies.{settled, replied}
use Rattle.station_rules.specs.History.{Call, setup, new, remove, move, request, plan, reply, report, answer_of_reply, answer_of_report, answer, checks_of}
use Rattle.station_rules.specs.History.{next}

-- ---- a reply, with all that it is answered: one table
pub reply_by_table : (s : Station) (r : Received) → replied s r ≡ checked (checks_of s (reply r)) (refused_reply s r.buffers) (taken_as s r (corrected s r))
unfolding replied settled
reply_by_table s r =
    sym (join (entry_checks s r) (settle_checks s r) (refused_reply s r.buffers) (taken_as s r (corrected s r)))

no_zero_reply : (s : Station) (r : Received) → numbered (checks_of s (reply r)) ≡ true
unfolding entry_checks corrected_checks
no_zero_reply s r = refl

pub came_reply : (s : Station) (r : Received) → CameTo (checks_of s (reply r)) (refused_reply s r.buffers) (taken_as s r (corrected s r)) (replied s r)
came_reply s r =
    rw (reply_by_table s r) (came_to (refused_reply s r.buffers) (taken_as s r (corrected s r)) (checks_of s (reply r)) (no_zero_reply s r))

-- ---- every call
by_table : (s : Station) (c : Call) → answer s c ≡ checked (checks_of s c) (refused s) (leaves (next s c))
unfolding checked set_up new_target removed moved requested reported
by_table s (setup h) = refl
by_table s (new a near far) = refl
by_table s (remove a) = refl
by_table s (move a near far) = refl
by_table s (request q) = refl
by_table s (plan tag) = refl
by_table s (reply r) =
    ap answer_of_reply (reply_by_table s r) ∙ view answer_of_reply (checks_of s (reply r)) (refused_reply s r.buffers) (taken_as s r (corrected s r))
by_table s (report a) = view (answer_of_report s) (checks_of s (report a)) not_reported (report_held s a)

no_zero : (s : Station) (c : Call) → numbered (checks_of s c) ≡ true
unfolding setup_checks new_target_checks held_checks move_checks request_checks
no_zero s (setup h) = refl
no_zero s (new a near far) = refl
no_zero s (remove a) = refl
no_zero s (move a near far) = refl
no_zero s (request q) = refl
no_zero s (plan tag) = refl
no_zero s (reply r) = no_zero_reply s r
no_zero s (report a) = refl

pub came : (s : Station) (c : Call) → CameTo (checks_of s c) (refused s) (leaves (next s c)) (answer s c)
came s c = rw (by_table s c) (came_to (refused s) (leaves (next s c)) (checks_of s c) (no_zero s c))

-- the number is that of the first check that is the case
pub given_by : (s : Station) (c : Call) → (answer s c).number ≡ given (checks_of s c)
given_by s c = ap (λ (r : Outcome). r.number) (by_table s c) ∙ view (λ (r : Outcome). r.number) (checks_of s c) (refused s) (leaves (next s c))

-- ---- a refusal changes nothing, neither the station nor a lent buffer
pub refusal_changes_nothing : (s : Station) (c : Call) → ((answer s c).number ≡ 0 → ⊥) → (answer s c).station ≡ s
refusal_changes_nothing s c n = go (answer s c) n (came s c)
  where
    go : (r : Outcome) → (r.number ≡ 0 → ⊥) → CameTo (checks_of s c) (refused s) (leaves (next s c)) r → r.station ≡ s
    go r n (was_refused x z e g q) = ap (λ (a : Outcome). a.station) q
    go r n (was_done k g q) = absurd (n (ap (λ (a : Outcome). a.number) q))

pub refused_reply_writes_nothing : (s : Station) (r : Received) → ((replied s r).number ≡ 0 → ⊥) → (replied s r).buffers ≡ r.buffers
refused_reply_writes_nothing s r n = go (replied s r) n (came_reply s r)
  where
    go : (a : Replied) → (a.number ≡ 0 → ⊥)
        → CameTo (checks_of s (reply r)) (refused_reply s r.buffers) (taken_as s r (corrected s r)) a → a.buffers ≡ r.buffers
    go a n (was_refused x z e g q) = ap (λ (y : Replied). y.buffers) q
    go a n (was_done k g q) = absurd (n (ap (λ (y : Replied). y.number) q))

-- ---- a reply that is taken: no check is the case, and it is taken with the message that its marks allow
pub passed_is : (s : Station) (r : Received) → Passed (checks_of s (reply r)) → replied s r ≡ taken_as s r (corrected s r)
passed_is s r p = reply_by_table s r ∙ sym (end (refused_reply s r.buffers) (taken_as s r (corrected s r)) all p.none)

pub record Taken (s : Station) (r : Received) : Type 0 where
  pub passed : Passed (checks_of s (reply r))
  pub is : replied s r ≡ taken_as s r (corrected s r)

pub taken : (s : Station) (r : Received) → (replied s r).number ≡ 0 → Taken s r
taken s r z = go (replied s r) refl z (came_reply s r)
  where
    go : (a : Replied) → replied s r ≡ a → a.number ≡ 0
        → CameTo (checks_of s (reply r)) (refused_reply s r.buffers) (taken_as s r (corrected s r)) a → Taken s r
    go a e z (was_refused x m k g q) = absurd (m (sym (ap (λ (y : Replied). y.number) q) ∙ z))
    go a e z (was_done k g q) = record { passed = k; is = e ∙ q }
